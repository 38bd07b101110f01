pub mod Changes
pub mod DiffCursor
pub mod Made
pub mod internal
