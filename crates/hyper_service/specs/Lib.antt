pub mod Given
pub mod Inner
pub mod Report
pub mod Seats
