pub mod Finding
pub mod Dots
pub mod Climbs
pub mod Steps
pub mod Closes
pub mod Numbers
pub mod Literals
pub mod Spelled
