-- The parts of a request matcher.
pub mod Matching
pub mod Refusal
pub mod Key
