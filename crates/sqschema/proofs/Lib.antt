pub mod ItemsTaken
pub mod RowidsSaid
pub mod ItemsAt
pub mod NamesAdded
pub mod RootsOfItems
pub mod Refusals
pub mod SoundSchemas
