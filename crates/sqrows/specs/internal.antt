-- What no public clause reaches.
pub mod Opening
pub mod Loading
pub mod Passing
