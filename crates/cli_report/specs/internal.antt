-- What no public clause reaches.
pub mod Diffs
pub mod Pages
