pub mod ZerosBehindBytes
pub mod ReadBefore
pub mod JournalsLeft
mod EndsOfJournals
