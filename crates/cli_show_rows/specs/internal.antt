-- What no public clause reaches.
pub mod Stopping
pub mod Straying
