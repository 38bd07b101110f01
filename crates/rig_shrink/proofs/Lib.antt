pub mod SectorsByValue
pub mod Searches
pub mod PiecesDown
