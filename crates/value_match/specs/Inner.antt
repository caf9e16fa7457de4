pub mod Engine
pub mod Search
pub mod Searches
