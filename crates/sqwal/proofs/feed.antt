-- A scan that is fed with pieces, and what it answers.
pub mod ScanUnderMoreBytes
pub mod ScanWithNextFrame
pub mod ScanAnswers
pub mod PieceFedToScan
pub mod SettledScan
