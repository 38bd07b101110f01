pub mod WrittenFiles
pub mod CarriedOutPlans
pub mod LeftSteps
pub mod ShownMeanwhile
