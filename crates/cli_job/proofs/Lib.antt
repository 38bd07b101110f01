pub mod FaultsFound
pub mod OpenedLooks
