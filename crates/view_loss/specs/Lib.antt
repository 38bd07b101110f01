pub mod Losses
pub mod internal
