pub mod NumberOfEachImage
pub mod CountsOfWays
pub mod FilesHeldByName
pub mod NumbersOfEpochImages
pub mod TornSectors
pub mod TearingPlaces
pub mod OrderedPlaysAsWhole
pub mod ImagesOfCurrentEpoch
