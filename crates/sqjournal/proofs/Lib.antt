pub mod journal
pub mod read
