-- The frames of a log that a view shows, and its pages as they are used.
pub mod FramesShown
-- A slot and a header of a log that were read.
pub mod SlotsRead
