pub mod Views
pub mod Lengths
pub mod Runs
pub mod Plain
pub mod Values
pub mod RunFields
