-- The journal as it is written: records, headers and segments, and the database that it restores.
pub mod EquivalentJournals
pub mod UnharmedOldDatabase
pub mod WritesBehindHeader
pub mod RecordsOfOldPages
pub mod WholeSegments
pub mod SegmentsFromAnyPlace
pub mod RecordAndHeaderBytes
pub mod JournalWithNewHeader
pub mod RestoredDatabase
pub mod DurableRecords
pub mod WrittenSegmentHeader
pub mod StepsOfSegmentHeader
