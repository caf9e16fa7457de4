pub mod Escapes
pub mod Contained
pub mod Counts
pub mod Results
pub mod Lengths
