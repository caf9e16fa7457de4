-- Words of private clauses.
pub mod Outcome
pub mod Sent
