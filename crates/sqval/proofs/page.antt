-- Page sizes, page numbers, pages of a file.
pub mod PageSizes
pub mod PageNumbers
pub mod FilePages
pub mod GatheredParts
