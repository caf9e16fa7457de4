pub mod Moment
pub mod Pairs
pub mod Content
pub mod Message
pub mod Document
pub mod Errors
pub mod Inner
