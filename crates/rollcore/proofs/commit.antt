-- A commit: accepted, listed, cut into segments, its pages written, the commit point.
pub mod AcceptedCommit
pub mod ListedChanges
pub mod CommitPoint
pub mod DatabaseOfWrittenPages
pub mod OverwrittenPages
pub mod CompletedCommit
pub mod SegmentsOfCommit
pub mod AppendedPages
pub mod StepOfCommit
