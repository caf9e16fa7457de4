-- Words for private clauses; no public contract cites them.
pub mod Totals
pub mod Reports
pub mod Own
