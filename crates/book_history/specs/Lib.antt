pub mod Kept
pub mod Errors
pub mod Inner
