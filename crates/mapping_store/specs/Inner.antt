-- Words for private clauses and for the invariant of a store; no public contract cites them.
pub mod Best
pub mod Entries
