-- What no public clause reaches.
pub mod Behind
pub mod Found
pub mod Generations
pub mod LogsShown
pub mod Records
pub mod Reports
pub mod Shown
