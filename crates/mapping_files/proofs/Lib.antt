mod AcceptedLemmas
pub mod Reversed
