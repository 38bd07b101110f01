pub mod DifferencesWritten
pub mod Answered
