pub mod Checkpoints
pub mod Past
pub mod Known
pub mod Table
