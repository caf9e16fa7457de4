pub mod NamedSegments
pub mod Cuts
pub mod Bound
pub mod Distinct
pub mod Examples
