pub mod Types
pub mod Defaults
pub mod Tables
pub mod Indexes
