pub mod SearchLemmas
pub mod PatternLemmas
