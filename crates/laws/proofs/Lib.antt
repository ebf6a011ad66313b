pub mod Common
pub mod Squares
pub mod Steps
pub mod Turned
pub mod Play
pub mod Forced
pub mod Boards
pub mod Positions
