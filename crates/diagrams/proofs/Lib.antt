pub mod DrawingLemmas
pub mod EscapeLemmas
