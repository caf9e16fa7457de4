-- The law of nested loops.
mod Sums
pub mod Nests
mod Shares
pub mod Due
mod Examples
