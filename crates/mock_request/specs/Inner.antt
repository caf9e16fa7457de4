pub mod Bare
pub mod Block
pub mod Parts
pub mod Made
