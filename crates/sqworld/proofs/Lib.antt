pub mod serve
pub mod run
pub mod Words
pub mod Facts
