pub mod CharsOfTexts
pub mod TextsRead
pub mod TextsStored
