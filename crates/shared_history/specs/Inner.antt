pub mod Lines
pub mod Law
pub mod Drafts
pub mod Codes
pub mod Kept
