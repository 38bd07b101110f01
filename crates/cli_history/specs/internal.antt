pub mod First
pub mod Whole
