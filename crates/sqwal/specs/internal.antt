-- What no public clause reaches.
pub mod Magic
pub mod Chains
pub mod Took
pub mod Answers
pub mod Commits
pub mod ScanParts
pub mod Leaps
pub mod Lanes
