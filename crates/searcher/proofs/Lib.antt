pub mod Taking
pub mod Halts
pub mod Limits
pub mod Lists
pub mod Forcing
pub mod Fewest
pub mod PlanLists
