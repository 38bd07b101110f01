pub mod KeyChanges
pub mod KeyCursor
pub mod Made
pub mod internal
