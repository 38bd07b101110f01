pub mod moves
pub mod PassedRows
