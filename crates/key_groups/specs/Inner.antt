-- Words of private clauses.
pub mod Maps
