pub mod Fifties
pub mod Refusing
