pub mod Plans
pub mod Applied
