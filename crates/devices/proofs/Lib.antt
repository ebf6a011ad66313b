mod DeviceLemmas
pub mod InputLemmas
