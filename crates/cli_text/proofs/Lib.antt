mod PaddedHex
mod JoinedTexts
mod NumberFacts
mod JournalRecords
mod FramesOfCommits
mod WrittenTexts
