pub mod Fits
pub mod Literals
pub mod Segments
pub mod Suffixes
pub mod Search
pub mod Texts
pub mod Parameters
