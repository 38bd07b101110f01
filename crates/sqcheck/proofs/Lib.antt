pub mod checks
pub mod visit
pub mod btree
pub mod Words
pub mod Below
pub mod Between
pub mod Facts
