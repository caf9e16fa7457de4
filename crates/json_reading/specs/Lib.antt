pub mod Reading
pub mod Fields
pub mod Numbers
pub mod Document
pub mod Written
pub mod Errors
