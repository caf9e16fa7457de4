pub mod Firsts
pub mod Lines
pub mod Judged
pub mod Texts
pub mod Counts
