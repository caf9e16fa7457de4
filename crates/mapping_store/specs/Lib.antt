pub mod Stored
pub mod Kept
pub mod Ids
pub mod Inner
