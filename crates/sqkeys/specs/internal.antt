-- What no public clause reaches.
pub mod Reading
