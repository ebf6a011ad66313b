pub mod Shown
pub mod Checked
pub mod OneRun
