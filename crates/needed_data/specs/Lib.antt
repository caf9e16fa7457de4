pub mod Fields
pub mod Needed
pub mod Inner
