pub mod Values
pub mod Texts
pub mod Escape
pub mod Helpers
pub mod Views
