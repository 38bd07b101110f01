pub mod Supers
pub mod internal
