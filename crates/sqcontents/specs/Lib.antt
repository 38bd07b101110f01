pub mod Contents
pub mod internal
