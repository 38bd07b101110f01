-- What no public clause reaches.
pub mod Files
pub mod Reading
pub mod Steps
pub mod Logs
pub mod Scanning
pub mod Phases
pub mod Copying
