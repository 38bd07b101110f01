-- The state machine: its steps, runs and invariants, and what fits it at the beginning.
pub mod StepTargets
pub mod StepInvariants
pub mod StepAnswers
pub mod StepsOfRun
pub mod WorkedRuns
pub mod ImpossibleRuns
pub mod FitOfSettledFiles
