pub mod Files
pub mod Journals
pub mod NewFiles
pub mod Notes
pub mod Refusals
pub mod Supers
pub mod Watches
pub mod internal
