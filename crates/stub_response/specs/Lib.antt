pub mod ErrorReply
pub mod HeaderText
pub mod Headers
pub mod Inner
pub mod Limits
pub mod PlainResponse
pub mod Prepared
pub mod Response
