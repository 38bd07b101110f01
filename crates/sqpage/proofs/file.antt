-- Pages of a database file: header, sources in memory, groups of pointer maps.
pub mod WrittenHeader
pub mod PagesInMemory
pub mod PointerMapGroups
