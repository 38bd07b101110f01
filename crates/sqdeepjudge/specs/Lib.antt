pub mod Verdicts
pub mod NotJudged
pub mod Missing
pub mod Counted
pub mod internal
