-- Linked pages: overflow chains and the freelist, and the pages that are taken.
pub mod ListsByRecursion
pub mod TakenPages
pub mod WalkOverFreelist
pub mod OverflowChains
