-- The places of pages in a log or a journal.
pub mod PlacesOfLastRecords
pub mod PlacesOfLastFrames
pub mod FrameOfPlace
pub mod FewPlaces
pub mod TableOfPlaces
