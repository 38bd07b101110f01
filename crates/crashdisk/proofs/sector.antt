-- The modelled file as a list of sectors: what each call makes of it.
pub mod FileFromChangedSectors
pub mod ValuesOfChangedSectors
pub mod SectorBySectorChanges
pub mod PlacesInSectors
pub mod BytesOfRead
pub mod SolidityOfSoundFiles
pub mod SectorsAfterSync
pub mod TouchedSectors
pub mod SectorsAfterFailedSync
pub mod SectorsAfterEnd
