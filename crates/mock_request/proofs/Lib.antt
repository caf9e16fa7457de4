mod BareLemmas
mod BlockLemmas
mod PartsLemmas
pub mod TargetLemmas
pub mod UrlLemmas
pub mod HeaderLemmas
pub mod CookieLemmas
pub mod QueryLemmas
mod LastLemmas
pub mod AuthorityLemmas
pub mod Examples
