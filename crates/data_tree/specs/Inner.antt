pub mod OneProof
pub mod Compact
