pub mod known
