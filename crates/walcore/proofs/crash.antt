-- What a crash leaves of log and file, and what that shows.
pub mod ImagesOfSyncedLog
pub mod OriginOfValidFrames
pub mod FrontOfSurvivingLog
pub mod HistoryInCrashImages
pub mod NarrowedImages
pub mod FitAfterCrash
