pub mod Comes
pub mod Each
pub mod Locking
pub mod Meant
pub mod Reads
pub mod Runs
pub mod internal
