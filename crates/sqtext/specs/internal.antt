-- What no public clause reaches.
pub mod Utf16
