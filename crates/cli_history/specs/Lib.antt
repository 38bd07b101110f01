pub mod History
pub mod Ranges
pub mod internal
