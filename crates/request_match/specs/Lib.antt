pub mod Parts
pub mod Matching
pub mod Refusal
pub mod Errors
pub mod Inner
