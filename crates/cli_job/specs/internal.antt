-- What no public clause reaches.
pub mod Jobs
pub mod Watches
