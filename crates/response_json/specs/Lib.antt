pub mod Draft
pub mod Reading
pub mod Writing
pub mod Inner
