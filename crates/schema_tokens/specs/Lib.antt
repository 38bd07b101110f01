pub mod Bytes
pub mod Runs
pub mod Keywords
pub mod Forms
pub mod Pieces
pub mod internal
