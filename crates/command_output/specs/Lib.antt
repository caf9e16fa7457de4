pub mod Ends
pub mod Files
pub mod Lines
pub mod Output
