mod Announced
mod Givens
