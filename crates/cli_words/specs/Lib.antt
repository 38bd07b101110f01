pub mod Line
pub mod Commits
pub mod internal
