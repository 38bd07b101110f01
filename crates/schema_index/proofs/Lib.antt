pub mod IndexesMade
pub mod SameColumns
pub mod Members
