pub mod Growth
pub mod Refusals
pub mod Inner
