pub mod LeavesOfFreelist
pub mod NumberedCommits
pub mod JudgmentOfFiles
pub mod KnownPages
