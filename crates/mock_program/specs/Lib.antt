pub mod CommandLine
pub mod Commands
pub mod Inner
pub mod Options
pub mod Rendering
