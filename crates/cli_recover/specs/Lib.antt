pub mod Copies
pub mod Engines
pub mod Outcomes
pub mod Plans
pub mod Recovered
pub mod Recovers
pub mod Refusals
pub mod internal
