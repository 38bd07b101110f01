-- A sync, with the copy of the last frame on a disk that tears.
pub mod LogWithRepeatedFrame
pub mod CopyOfLastFrame
pub mod StepOfSync
