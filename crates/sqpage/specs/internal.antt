-- What no public clause reaches.
pub mod Source
pub mod Taking
pub mod SoundPage
pub mod Marking
pub mod PointerMaps
