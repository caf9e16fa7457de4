pub mod CallLemmas
pub mod PathLemmas
pub mod RouteLemmas
pub mod RowLemmas
