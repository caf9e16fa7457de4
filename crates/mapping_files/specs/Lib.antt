pub mod Served
pub mod Saved
