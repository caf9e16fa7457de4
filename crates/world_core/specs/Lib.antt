pub mod Schedule
pub mod Shared
pub mod Laws
pub mod Replay
