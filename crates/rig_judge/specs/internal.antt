-- What no public clause reaches.
pub mod Leaves
pub mod Judged
