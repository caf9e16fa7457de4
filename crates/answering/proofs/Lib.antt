mod FinishLemmas
mod ForeignLemmas
mod HeaderLemmas
mod MessageLemmas
pub mod RenderedLemmas
mod RefusedLemmas
mod RenderingLemmas
mod ResultLemmas
mod ServeLemmas
pub mod YieldLemmas
