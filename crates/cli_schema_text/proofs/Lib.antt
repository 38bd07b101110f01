pub mod NamesMore
pub mod Answered
pub mod NamesSeen
