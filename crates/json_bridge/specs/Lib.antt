pub mod Reading
pub mod Part
pub mod Writing
pub mod Path
pub mod PathFound
pub mod Examples
pub mod Inner
