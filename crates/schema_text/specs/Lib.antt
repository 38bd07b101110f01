pub mod Kinds
pub mod Rules
pub mod Clauses
pub mod Texts
pub mod internal
