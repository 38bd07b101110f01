pub mod DiffsOfFiles
pub mod PagesWhole
pub mod ReportsOfFiles
pub mod ScriptsOfFound
pub mod WordsOfDiff
