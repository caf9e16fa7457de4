pub mod Groups
pub mod NameLemmas
pub mod GroupLemmas
pub mod Regular
pub mod RequestLemmas
pub mod MappingLemmas
pub mod WholeJson
