pub mod RangesOfSectors
pub mod MissingCalls
