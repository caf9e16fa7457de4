pub mod LinesOf
pub mod Totals
pub mod DocumentLemmas
pub mod FreshLemmas
