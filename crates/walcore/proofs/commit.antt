-- A commit: accepted, its frames written, the step of the machine.
pub mod EraAfterCommit
pub mod AcceptedCommit
pub mod LogAfterFrameWrite
pub mod SequenceOfFrameWrites
pub mod FitOfPreparedCore
pub mod FramesOfAcceptedCommit
pub mod FitAfterCommit
pub mod StepOfCommit
