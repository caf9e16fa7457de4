-- Words of private clauses.
pub mod Begins
pub mod Exchange
pub mod Failure
pub mod Outcome
pub mod Started
