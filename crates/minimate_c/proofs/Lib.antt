pub mod AsBox
pub mod AskedLemmas
pub mod WritingLemmas
pub mod StopLemmas
