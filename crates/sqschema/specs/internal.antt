-- What no public clause reaches.
pub mod Reading
pub mod Judging
