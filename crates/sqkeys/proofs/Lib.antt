pub mod Pairs
mod RulesPushed
pub mod EntriesOver
pub mod TextsRead
