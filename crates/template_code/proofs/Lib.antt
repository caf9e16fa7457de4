pub mod RunFacts
pub mod FlowFacts
pub mod TurnFacts
pub mod ItemFacts
pub mod FindFacts
pub mod EscapeFacts
