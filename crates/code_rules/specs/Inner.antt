-- Definitions of the law, which only proofs need: no contract of another crate cites them.
pub mod Course
pub mod Run
