mod Asking
mod Words
mod Saying
mod WantedLocks
