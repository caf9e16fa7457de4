-- Words of private clauses.
pub mod Timed
