pub mod CheckpointLemmas
pub mod EventLemmas
pub mod VisibleLemmas
pub mod TurnLemmas
