-- What no public clause reaches.
pub mod Shown
pub mod Shortest
pub mod JudgedPages
