pub mod AllLemmas
pub mod EligibleLemmas
pub mod MetLemmas
pub mod UnmetLemmas
