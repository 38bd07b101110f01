pub mod Held
pub mod Wants
pub mod Todo
pub mod Saying
pub mod Prepared
pub mod internal
