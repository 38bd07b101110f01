-- What no public clause reaches.
pub mod Printing
pub mod Quoting
