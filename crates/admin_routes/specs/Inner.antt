-- Words of private clauses.
pub mod Table
pub mod Methods
pub mod Paths
