pub mod openings
pub mod file
pub mod place
pub mod judgments
