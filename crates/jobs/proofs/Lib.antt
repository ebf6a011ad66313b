pub mod Keeps
pub mod Deals
