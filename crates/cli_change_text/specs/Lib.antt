pub mod Names
pub mod Changes
pub mod Heads
pub mod Refusals
pub mod internal
