pub mod Diffs
pub mod Pages
pub mod Reports
pub mod Salvages
pub mod Shown
pub mod internal
