-- A restart: a new header over a log that was checkpointed.
pub mod ShownDatabaseDuringRestart
pub mod NewHeaderOverLog
pub mod StepOfRestart
