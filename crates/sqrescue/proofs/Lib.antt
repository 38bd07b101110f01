pub mod ComesOfFound
pub mod GreatestStatus
pub mod WordsEnd
pub mod FilesNotRead
