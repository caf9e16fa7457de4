pub mod Program
pub mod Errors
pub mod Inner
