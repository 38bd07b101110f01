-- What no public clause reaches.
pub mod Phases
pub mod Steps
pub mod Plans
pub mod Copying
pub mod RecordPlan
pub mod Fits
pub mod Commits
pub mod Listing
pub mod Journaling
pub mod Segments
pub mod Committing
pub mod Lengths
pub mod Opening
pub mod Reading
pub mod SoundScan
