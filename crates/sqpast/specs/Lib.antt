pub mod Past
pub mod Used
pub mod Files
pub mod Commits
pub mod internal
