pub mod Chains
pub mod Opening
pub mod Before
pub mod Commits
