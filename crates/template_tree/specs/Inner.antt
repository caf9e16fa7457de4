-- Words that only private facts need: those of private functions' contracts, and what a template keeps.
pub mod Views
pub mod Frames
pub mod OneProof
