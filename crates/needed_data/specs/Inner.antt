pub mod FieldSet
pub mod Parts
