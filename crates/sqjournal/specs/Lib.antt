pub mod NonceSum
pub mod Header
pub mod Journal
pub mod Slots
pub mod Restored
pub mod Reading
pub mod Took
pub mod internal
