-- A checkpoint: what it does to the database file, the step of the machine.
pub mod CheckpointedDatabaseFile
pub mod StepOfCheckpoint
pub mod DiskInvariantUnderCheckpoint
