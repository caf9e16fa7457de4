pub mod Line
pub mod Taken
