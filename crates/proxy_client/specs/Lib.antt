pub mod Errors
pub mod Messages
pub mod Address
pub mod Own
pub mod Content
