-- Readers, their marks, and what a read gives.
pub mod MarksOfReaders
pub mod StepsOfReaders
pub mod ContentOfReadPage
pub mod OldestReaderMark
