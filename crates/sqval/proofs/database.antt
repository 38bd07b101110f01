-- Commits that are faultless, the database that they make, and what an engine answers.
pub mod CommittedDatabase
pub mod FaultlessCommit
pub mod AnswersOfEngine
