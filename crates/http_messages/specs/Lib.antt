pub mod Inner
pub mod Received
pub mod TransferCoding
pub mod Wire
