-- The view of files: opened, at a commit, its pages, its refusals.
pub mod PagesWithinLimit
pub mod PagesOfView
pub mod ShownOrRefusedView
pub mod ViewAtCommit
