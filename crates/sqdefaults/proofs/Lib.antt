pub mod LastSaid
