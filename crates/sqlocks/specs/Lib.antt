pub mod Bytes
pub mod Runs
pub mod Index
pub mod Told
pub mod Places
pub mod internal
