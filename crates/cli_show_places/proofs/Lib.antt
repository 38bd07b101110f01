pub mod FramesOfView
pub mod CellsWalked
pub mod TurnsPlaced
