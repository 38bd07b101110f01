mod RowsOfSchema
mod ListedByRow
pub mod SchemaFindings
pub mod MissingPages
