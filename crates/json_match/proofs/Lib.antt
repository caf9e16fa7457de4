pub mod Lists
pub mod Takings
pub mod Counting
pub mod Names
pub mod Walks
pub mod Tests
