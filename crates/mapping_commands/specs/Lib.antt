pub mod Checking
pub mod Answering
pub mod Fresh
pub mod Explaining
pub mod Inner
