pub mod Zips
pub mod ErrorLemmas
pub mod RequestErrorLemmas
pub mod Listed
pub mod Joined
pub mod Wrongs
