-- What is read and written of files: heads, pieces, runs.
pub mod FileHeads
pub mod LogsReadInPieces
pub mod HeldPartOfFile
pub mod RunsOfWrittenPages
