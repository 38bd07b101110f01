pub mod Shrunk
pub mod internal
