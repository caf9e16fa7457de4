pub mod SumFacts
pub mod GrowthFacts
pub mod BoundFacts
pub mod StackFacts
pub mod PopFacts
pub mod MarkFacts
pub mod LoopFacts
pub mod PassFacts
