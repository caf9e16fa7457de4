pub mod Walk
pub mod Taken
pub mod Counts
pub mod Test
