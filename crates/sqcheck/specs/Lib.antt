pub mod Places
pub mod WellFormed
pub mod Stands
pub mod Roles
pub mod Found
pub mod Surveys
pub mod internal
