pub mod PaddedPages
pub mod PagesKept
pub mod PagesLost
pub mod GreatestSoFar
