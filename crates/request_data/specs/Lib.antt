pub mod Grouped
pub mod Authority
pub mod RequestTree
pub mod Part
pub mod Inner
