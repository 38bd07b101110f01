pub mod page
pub mod payload
pub mod database
