-- to be believed
pub mod Answer
pub mod Questions
pub mod Problems
pub mod Roots
pub mod Jobs
pub mod Keys
pub mod Tried
