pub mod Books
pub mod Marks
pub mod Lost
pub mod Cells
pub mod Leaves
pub mod Faults
pub mod Scripts
pub mod internal
