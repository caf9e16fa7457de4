-- Words of private clauses.
pub mod Keys
