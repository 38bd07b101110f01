pub mod Leaves
pub mod Shown
pub mod Near
pub mod Judged
pub mod Sound
pub mod internal
