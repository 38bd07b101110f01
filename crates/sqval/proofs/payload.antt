-- Payloads of records: varints, serial types, bodies; read in one way, written shortest.
pub mod VarintNumbers
pub mod SerialTypesAndBodies
pub mod UniquenessOfReading
pub mod TwosComplementIntegers
pub mod ShortestRecord
