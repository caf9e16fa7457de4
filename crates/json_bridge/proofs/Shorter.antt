pub mod Strings
pub mod Words
pub mod Lexemes
pub mod Tokens
pub mod Values
