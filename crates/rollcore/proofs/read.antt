-- What a read gives.
pub mod ContentOfReadPage
