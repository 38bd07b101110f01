pub mod Versions
pub mod Families
pub mod Members
pub mod Likeliest
pub mod internal
