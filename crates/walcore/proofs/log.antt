-- What a log of frames is, begun and extended: existence, uniqueness, durable and present frames.
pub mod GrowthOfMadeLogs
pub mod CommitOfExtendedLog
pub mod EraOfExtendedLog
pub mod DurableFrames
pub mod PresentFrames
pub mod BytesOfEqualWords
pub mod UniquenessOfExtendedLog
pub mod LogOfHeaderAlone
pub mod ExtensionByFrames
pub mod ExistenceOfExtendedLog
pub mod BytesOfNextFrame
pub mod LogBeforeFirstCommit
