-- Definitions that only private contracts and proofs need.
pub mod Scan
pub mod Views
pub mod Pieces
pub mod OneProof
pub mod WordReads
pub mod CallReads
pub mod BlockReads
pub mod TagReads
