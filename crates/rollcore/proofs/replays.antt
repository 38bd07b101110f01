-- The replay of a hot journal into its file: scan, plan, copy, end, and what is shown meanwhile.
pub mod LastRecordOfPage
pub mod ScanOfLogPrefix
pub mod CopiedPages
pub mod PhasesOfReplay
pub mod ZeroedHeader
pub mod FinalSteps
pub mod PlanOfScannedLog
pub mod DecisivePrefixOfJournal
pub mod AnswerOfParts
pub mod LengthOfDatabaseFile
