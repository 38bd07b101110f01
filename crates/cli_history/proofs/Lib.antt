pub mod CommitsTaken
pub mod CommitsBetween
pub mod Answered
pub mod KnownFirst
pub mod ViewsShown
