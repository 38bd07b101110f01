-- The fold of a log into its file: scan, plan, copy, end, and what is shown meanwhile.
pub mod ScanOfLogPrefix
pub mod PlanOfScannedLog
pub mod CopiedPages
pub mod PhasesOfFold
pub mod ZeroedHeader
pub mod FinalSteps
pub mod AnswerOfParts
pub mod LengthOfDatabaseFile
pub mod CallsOnDatabaseFile
