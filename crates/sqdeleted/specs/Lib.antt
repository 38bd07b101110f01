pub mod Deleted
pub mod DeletedCursor
pub mod Cut
pub mod CutCursor
pub mod internal
