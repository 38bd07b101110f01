mod Headers
pub mod ItemsJudged
mod IndexesOfItems
mod RowsOfItems
