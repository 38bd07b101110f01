-- A reading of a journal, piece by piece, and what a replay took.
pub mod StepsOfReading
pub mod NextStateOfReading
pub mod RestOfPiece
pub mod JournalOfTakenBytes
pub mod BytesTakenByReplay
pub mod UniquenessOfReading
pub mod SettledJournal
