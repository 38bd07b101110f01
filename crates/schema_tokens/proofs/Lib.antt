pub mod Steps
pub mod SameWord
pub mod Chain
