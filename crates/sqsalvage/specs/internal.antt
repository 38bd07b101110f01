-- What no public clause reaches.
pub mod Taking
pub mod Opening
