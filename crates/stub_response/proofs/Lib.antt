pub mod LimitLemmas
pub mod ListLemmas
pub mod ResponseLemmas
pub mod PreparedLemmas
pub mod AlikeLemmas
pub mod GrowthLemmas
mod HeaderLemmas
mod PlainLemmas
