pub mod Common
pub mod Lists
pub mod Forcing
pub mod Variations
pub mod Tries
pub mod Plays
pub mod Changes
