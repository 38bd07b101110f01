-- What no public clause reaches.
pub mod Call
pub mod Facts
pub mod Keeps
pub mod Held
pub mod Answer
pub mod Choice
pub mod Since
pub mod During
pub mod SoundModel
