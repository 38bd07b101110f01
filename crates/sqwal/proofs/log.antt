-- What is read of a log and written to it: header, frames, prefix, front and view.
pub mod DependenceOnPrefix
pub mod PartsOfBytes
pub mod HeaderAsRead
pub mod WrittenHeadersAndFrames
pub mod LogWithAppendedFrame
pub mod UniquenessOfView
pub mod ExistenceOfFront
pub mod CommitsAmongFrames
