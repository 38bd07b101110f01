pub mod Steps
pub mod Fronts
pub mod Journals
pub mod internal
