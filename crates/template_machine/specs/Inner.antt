-- Words for the contracts of private functions and for views of private types; no public contract cites them.
pub mod Calls
pub mod Changes
pub mod Conversions
pub mod Found
pub mod Loops
pub mod Needs
pub mod Programs
pub mod Slots
pub mod Turns
