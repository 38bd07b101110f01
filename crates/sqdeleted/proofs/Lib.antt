-- When bytes begin a record.
pub mod BeginsOfRecords
-- The first values of a record, one more at the end.
pub mod FirstValues
-- Freeblocks, one behind the other.
pub mod LinkedFreeblocks
-- The cells of a gap, place by place.
pub mod CellsOfGaps
-- The places that are left.
pub mod PlacesLeft
-- The steps of a cursor over deleted cells, and what they leave.
pub mod StepsOfWalk
-- Serial types from a place of a page on, one more at the end.
pub mod TypesFrom
-- Where freeblocks were.
pub mod FreedPlaces
-- What is left of a cell, by how it is read.
pub mod RestsOfCells
-- The places of cells that lost their first four bytes, and those that are left.
pub mod CutPlaces
-- The values of such a cell.
pub mod CutValues
-- The steps of a cursor over them, and what they leave.
pub mod CutSteps
-- The places at which deleted cells stand whole, one more of them.
pub mod WholePlaces
