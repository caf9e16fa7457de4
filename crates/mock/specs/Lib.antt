pub mod CommandLine
pub mod Descriptors
pub mod Inner
pub mod Page
pub mod Served
