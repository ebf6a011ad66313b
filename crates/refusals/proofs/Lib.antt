pub mod Telling
pub mod OutcomeLemmas
