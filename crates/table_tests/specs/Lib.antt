-- inside
pub mod Triples
pub mod Bounded
