-- Bytes and files that no crash can take away (fixed, steady, settled).
pub mod FixedBytes
pub mod SettledFiles
pub mod SteadyBytes
