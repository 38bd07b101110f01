-- The check as a whole: header, phases, pointer maps, schema, chart, and the tools for it.
pub mod ListsByRecursion
pub mod ResultsOfCalls
pub mod RefutationOfWellFormedness
pub mod PointerMapEntries
pub mod HeaderInFirstPage
pub mod RowsOfSchema
pub mod PhasesOfCheck
pub mod EndsOfCheck
pub mod TakenChains
pub mod ChartOfAllPages
pub mod FaultsPutDown
pub mod RowsOfSurvey
