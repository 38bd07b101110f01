-- What a world, its engine and its session answer to an event.
pub mod FilesUnderSettings
pub mod CallsAsSteps
pub mod AnswersToEvents
pub mod NextServedEvent
pub mod JournalAnswersToEvents
