pub mod KeyColumns
pub mod Automatic
pub mod Create
pub mod Terms
pub mod Texts
