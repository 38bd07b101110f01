-- What no public clause reaches.
pub mod Reading
pub mod Bodies
pub mod Held
pub mod Ends
pub mod Judging
pub mod Joining
pub mod Scanning
pub mod KeyedScanning
pub mod Marking
pub mod Spans
pub mod Streaming
pub mod Parts
pub mod RowsGiven
pub mod Matching
pub mod Stepping
