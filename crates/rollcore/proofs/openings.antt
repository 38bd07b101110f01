-- Opening: the magic that is erased, what is found, recovered, refused.
pub mod ErasedMagic
pub mod MagicAsRead
pub mod RecoveredFiles
pub mod RefusalOfOpening
pub mod InitialSync
