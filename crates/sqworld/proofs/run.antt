-- Runs that go on by one moment or event, and the pages where they begin.
pub mod BasePages
pub mod MomentsOfRun
pub mod NextMoment
pub mod NextEventOfLife
pub mod NextEvent
