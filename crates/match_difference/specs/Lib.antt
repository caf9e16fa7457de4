pub mod Conditions
pub mod Unmet
pub mod Refusal
pub mod Inner
