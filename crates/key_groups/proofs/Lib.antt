pub mod StepLemmas
pub mod MapLemmas
