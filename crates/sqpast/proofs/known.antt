-- What a file and its log say of what was there at earlier commits.
pub mod FramesByPage
pub mod BytesInPieces
pub mod JudgedPages
pub mod KnownViews
pub mod UsedPages
pub mod OpenedFiles
pub mod BeforeCommits
pub mod KnownCommits
