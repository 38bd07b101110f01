pub mod Found
pub mod Parts
pub mod Lines
pub mod internal
