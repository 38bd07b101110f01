pub mod EndOfJournal
