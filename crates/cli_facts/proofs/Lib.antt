pub mod LockLines
pub mod TextsOfLockLines
pub mod ExpansionOfRuns
pub mod LogFronts
pub mod FaultsInOrder
pub mod ZerosBehind
