pub mod Texts
pub mod Columns
pub mod Schema
pub mod Objects
pub mod Defaults
pub mod Keys
pub mod Named
pub mod internal
