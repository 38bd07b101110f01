-- B-tree pages: cells, layout, marks on their bytes.
pub mod LayoutOfPage
pub mod PartsOfCells
pub mod MarksOnBytes
pub mod BareBytes
pub mod FallingCells
pub mod CellsInRuns
