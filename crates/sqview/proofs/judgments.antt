-- The verdict on files.
pub mod VerdictOnFiles
