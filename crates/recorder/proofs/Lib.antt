pub mod HashLemmas
pub mod TargetLemmas
pub mod KeyLemmas
pub mod ConnectionLemmas
pub mod ForwardingLemmas
pub mod SendableLemmas
