pub mod CopiedPages
pub mod CopiesOfFiles
pub mod FoldedLogs
pub mod PlannedByLogs
pub mod RecoveredFiles
pub mod RecoveredViews
