-- Opening: what it finds, recovers, refuses and leaves.
pub mod ShownDatabaseAfterOpening
pub mod RefusalBeforeWrites
pub mod StepOfOpening
pub mod HeaderOfNewLog
pub mod RecoveredFiles
pub mod FoundFiles
pub mod RefusalOfOpening
pub mod InitialSync
