pub mod MappingId
pub mod Status
pub mod Body
pub mod Priority
