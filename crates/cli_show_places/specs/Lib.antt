pub mod Frames
pub mod Lines
pub mod Places
pub mod Stops
pub mod internal
