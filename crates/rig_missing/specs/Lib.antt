pub mod Changes
pub mod Missing
pub mod internal
