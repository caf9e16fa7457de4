pub mod Errors
pub mod Reading
pub mod Spelling
pub mod Documents
pub mod Writing
pub mod RequestRefusal
pub mod RequestErrors
pub mod Inner
