-- Words of private clauses.
pub mod Joined
pub mod Mapped
pub mod Meets
pub mod Said
pub mod Searched
