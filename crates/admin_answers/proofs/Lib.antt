mod JoinedLemmas
mod MeetsLemmas
mod SearchLemmas
pub mod NumberLemmas
pub mod ReadLemmas
pub mod ChangeLemmas
