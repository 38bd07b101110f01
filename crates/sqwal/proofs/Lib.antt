pub mod checksum
pub mod log
pub mod find
pub mod feed
