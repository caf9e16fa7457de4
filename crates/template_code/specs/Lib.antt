pub mod Code
pub mod Instructions
pub mod Machine
pub mod Finds
pub mod Listing
pub mod Shown
