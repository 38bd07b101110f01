-- The sums of words, headers and frame slots.
pub mod Sums
pub mod SlotParts
pub mod SumsOfEqualHeaders
pub mod SumsJoined
pub mod FibonacciDoubled
pub mod Lanes
