-- What a crash leaves of log and file, and what that shows.
pub mod ImagesOfSyncedLog
pub mod NarrowedImages
pub mod FitAfterCrash
