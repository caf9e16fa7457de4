pub mod Prefixes
pub mod Entries
pub mod Lines
pub mod Cells
pub mod KeptSteps
pub mod Turns
pub mod Growing
pub mod Seats
