pub mod Faults
pub mod Texts
pub mod Records
pub mod Pages
pub mod Headers
pub mod Inside
pub mod Forms
pub mod internal
