pub mod NamingLemmas
pub mod Refused
pub mod ShownLemmas
