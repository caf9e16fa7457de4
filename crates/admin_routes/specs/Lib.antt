pub mod Places
pub mod Routes
pub mod Segment
pub mod Calls
pub mod Errors
pub mod Inner
