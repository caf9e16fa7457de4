pub mod FieldSets
pub mod NeededFacts
pub mod Examples
