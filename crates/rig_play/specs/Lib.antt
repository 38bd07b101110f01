pub mod Trace
pub mod Files
pub mod Names
pub mod Ends
pub mod Plays
pub mod internal
