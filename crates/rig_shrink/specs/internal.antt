-- What no public clause reaches.
pub mod Values
pub mod Trying
