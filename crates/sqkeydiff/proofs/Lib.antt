-- The first values of a row, one after another.
pub mod KeysOfRows
-- Keys that ascend, and lists by them.
pub mod AscendingKeys
-- Which of two rows comes next.
pub mod NextRows
-- The changes between two lists of rows, at their heads.
pub mod HeadsOfLists
-- What the changes between two lists of rows are.
pub mod LawsOfChanges
-- What is left, turn by turn.
pub mod TurnsOfWalk
-- One turn after another, and what they leave.
pub mod WalksOfTurns
-- Why rows aren't read.
pub mod RefusalsOfRows
