-- Places of pages, runs of pages, and disks on which torn pages are recovered.
pub mod RecoverablePages
pub mod PlacesOfPages
pub mod ClearPlacesOfPage
pub mod RunsOfPages
