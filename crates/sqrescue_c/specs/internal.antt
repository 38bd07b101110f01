-- What no public clause reaches.
pub mod Statuses
pub mod Logs
pub mod Journals
pub mod Recoveries
pub mod Indexes
pub mod Plans
pub mod Missing
