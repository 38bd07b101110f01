-- What no public clause reaches.
pub mod Logs
pub mod Values
