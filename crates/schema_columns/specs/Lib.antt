pub mod Types
pub mod Columns
pub mod Keys
