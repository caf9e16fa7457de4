pub mod AnyLemmas
pub mod ErrorLemmas
pub mod BodyLemmas
pub mod ReadLemmas
pub mod RestLemmas
pub mod BuildLemmas
