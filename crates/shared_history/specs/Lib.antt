pub mod Entries
pub mod History
pub mod Sight
pub mod Inner
pub mod Seal
