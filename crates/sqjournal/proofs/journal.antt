-- What a journal is and says: header, records, sums, the restored database.
pub mod SumOverPagePlaces
pub mod WordsOfHeader
pub mod DependenceOnPrefix
pub mod RecordSlots
pub mod RecordsOfEntries
pub mod UniquenessOfRestoredDatabase
