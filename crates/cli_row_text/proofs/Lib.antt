pub mod TextsOfValues
pub mod RowsWritten
pub mod NamesWritten
pub mod RunsWritten
pub mod CharsWritten
