pub mod Texts
pub mod SchemaFaults
pub mod Items
pub mod Rules
pub mod Roots
pub mod Schema
pub mod internal
