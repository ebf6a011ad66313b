pub mod RowFacts
pub mod PositionTexts
pub mod Faults
pub mod OneText
