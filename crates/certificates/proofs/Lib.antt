pub mod Claimed
pub mod Certified
