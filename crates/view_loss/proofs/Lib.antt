mod CopiedFrames
mod Losses
pub mod PagesCounted
