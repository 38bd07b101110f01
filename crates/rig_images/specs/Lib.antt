pub mod Ways
pub mod Images
pub mod Left
pub mod Torn
pub mod Including
pub mod Fixing
pub mod Keys
pub mod internal
