pub mod ConsecutiveCalls
pub mod DifferingNames
pub mod ListsThatGrow
pub mod NamesShown
pub mod NamesWithTornFiles
pub mod RangesOfSectors
pub mod SectorsOfFiles
