pub mod AllOf
pub mod OneMade
