-- What no public clause reaches.
pub mod Laid
pub mod Places
pub mod LogView
pub mod At
pub mod ViewParts
pub mod Verdicts
