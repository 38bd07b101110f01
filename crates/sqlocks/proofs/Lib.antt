pub mod RightRuns
pub mod LogParts
pub mod TextsOfLockLines
pub mod LockLines
pub mod IndexSums
