pub mod btree
pub mod file
pub mod chain
