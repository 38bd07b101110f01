-- The first faults of pages, of one page more.
pub mod FirstsWritten
-- What a source keeps over no step, and over two.
pub mod Kept
-- Leaves, one more at the end.
pub mod LeavesWritten
-- Objects, one more at the end.
pub mod ObjectsWritten
-- Of what stops that comes from printing a text.
pub mod RunOut
-- Texts of numbers in a row, one more at the end.
pub mod TextsInRow
