pub mod ObjectsTaken
pub mod ColumnsNamed
