pub mod Lines
pub mod Printed
pub mod Inserts
pub mod Headings
pub mod internal
