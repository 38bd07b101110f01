-- What no public clause reaches.
pub mod Steps
pub mod Values
pub mod Rests
