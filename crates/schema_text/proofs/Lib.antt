pub mod Chain
pub mod SameTokens
