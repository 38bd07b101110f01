-- What no public clause reaches.
pub mod Walking
pub mod Counting
pub mod Agenda
pub mod Heading
pub mod Checking
pub mod Schema
pub mod Room
pub mod Snapshots
pub mod Roles
pub mod Surveys
pub mod Charting
pub mod Chains
pub mod Found
