-- What no public clause reaches.
pub mod Uses
pub mod Columns
pub mod Judging
pub mod IllFormed
