pub mod Read
pub mod Rest
pub mod Kept
pub mod FirstError
pub mod Heads
