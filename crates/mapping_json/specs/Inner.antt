pub mod Lists
pub mod Wrongs
