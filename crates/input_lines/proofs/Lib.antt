pub mod LineLemmas
pub mod WithinLemmas
pub mod MarkLemmas
