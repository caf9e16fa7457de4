pub mod Taken
pub mod Names
pub mod Lists
pub mod Whole
