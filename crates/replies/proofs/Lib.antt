pub mod ReplyLemmas
pub mod FirstLemmas
