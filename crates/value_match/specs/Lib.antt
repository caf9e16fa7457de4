pub mod Patterns
pub mod Matching
pub mod Refusal
pub mod Errors
pub mod Inner
