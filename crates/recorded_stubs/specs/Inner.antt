-- Words of private clauses.
pub mod Lent
