-- What a sync leaves, one that succeeded or one that failed.
pub mod WrittenAndSyncedFile
pub mod ImagesAfterFailedSync
pub mod ImagesAfterSync
pub mod BytesOfSyncedLog
