pub mod Scenarios
pub mod Inner
