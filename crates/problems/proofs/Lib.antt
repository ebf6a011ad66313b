pub mod Winning
pub mod LastPlies
pub mod Tried
pub mod Jobs
