-- What no public clause reaches.
pub mod Adding
pub mod Tearing
