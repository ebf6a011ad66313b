pub mod PlaceKeeps
pub mod Seats
