-- Words for the contracts of private functions; no public contract cites them.
pub mod Drafts
pub mod Room
pub mod Length
pub mod Listed
