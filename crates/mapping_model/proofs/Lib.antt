pub mod OptionFacts
