-- What no public clause reaches.
pub mod Contents
pub mod Disks
pub mod Refusals
pub mod Scans
