pub mod TreePages
pub mod Reached
pub mod SalvageCursor
pub mod internal
