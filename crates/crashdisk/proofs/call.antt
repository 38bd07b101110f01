-- What each call of a disk, and a sequence of them, may answer, change and leave as it was.
pub mod CasesOfAnswers
pub mod WritesInOneRange
pub mod SequencesOfCalls
pub mod AnswersOfCalls
pub mod SoundDiskUnderCalls
pub mod SoundFileUnderChanges
pub mod EffectsOfCalls
pub mod UnchangingCalls
pub mod DisksAfterCalls
