pub mod CellNumbers
pub mod TableTests
pub mod Reached
pub mod Masks
pub mod OnRays
pub mod Leaping
pub mod LineTables
