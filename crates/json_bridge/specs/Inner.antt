pub mod NextStep
pub mod Direct
