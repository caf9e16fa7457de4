pub mod Arguments
pub mod Parser
