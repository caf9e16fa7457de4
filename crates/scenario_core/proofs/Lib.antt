pub mod OrderedPairs
pub mod EntryLemmas
pub mod StateLemmas
pub mod Moves
