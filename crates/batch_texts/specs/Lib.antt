-- to be believed
pub mod Said
pub mod Fields
pub mod Asking
pub mod Forms
