pub mod Template
pub mod Matching
pub mod Errors
pub mod Inner
