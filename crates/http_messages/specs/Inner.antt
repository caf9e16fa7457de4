pub mod AsSent
