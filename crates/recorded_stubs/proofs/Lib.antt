pub mod TextLemmas
pub mod HeaderLemmas
pub mod StubLemmas
