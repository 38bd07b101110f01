-- What no public clause reaches.
pub mod Found
pub mod Walks
pub mod Opening
