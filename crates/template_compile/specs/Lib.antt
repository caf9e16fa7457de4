pub mod Kinds
pub mod Compiled
pub mod Correct
pub mod Inner
