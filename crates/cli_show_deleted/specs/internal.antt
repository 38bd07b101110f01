-- What no public clause reaches.
pub mod Walks
pub mod Candidates
pub mod Images
pub mod Surveys
