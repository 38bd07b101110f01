-- What no public clause reaches.
pub mod Faults
pub mod Refusals
