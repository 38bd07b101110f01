-- What no public clause reaches.
pub mod Sessions
pub mod Engines
pub mod JournalEngines
pub mod Worlds
pub mod FitAtBeginning
pub mod WalLaws
pub mod JournalLaws
