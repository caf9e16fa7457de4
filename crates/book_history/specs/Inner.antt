pub mod Checkpoint
pub mod Codes
pub mod Counts
pub mod Shown
