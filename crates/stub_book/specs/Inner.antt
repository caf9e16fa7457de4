-- Words for private clauses and for the invariant of a book; no public contract cites them.
pub mod Counted
pub mod Kept
pub mod Recorded
