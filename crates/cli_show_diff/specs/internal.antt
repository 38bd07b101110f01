-- What no public clause reaches.
pub mod Framing
pub mod Stopping
pub mod TableDiffs
pub mod Walks
