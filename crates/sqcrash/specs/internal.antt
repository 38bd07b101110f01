-- What no public clause reaches.
pub mod Samples
pub mod Times
