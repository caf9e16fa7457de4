-- Words of private clauses.
pub mod Accepted
pub mod Progress
pub mod Pushed
pub mod Ready
pub mod Seat
