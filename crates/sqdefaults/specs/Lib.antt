pub mod Affinities
pub mod Literals
pub mod Numbers
pub mod Defaults
