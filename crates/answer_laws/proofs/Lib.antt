pub mod Listings
pub mod Unique
pub mod OneAnswer
pub mod KeyLists
pub mod BothWays
pub mod Twice
pub mod TurnedKeys
pub mod Heights
