pub mod HasCode
pub mod Drafts
pub mod Lengths
pub mod Goes
pub mod LoopRuns
pub mod Fits
pub mod Calls
pub mod ExpressionRuns
pub mod NodeRuns
pub mod Stretch
pub mod Heights
pub mod PushLayout
pub mod CallLayout
pub mod ExpressionLayout
pub mod Blocks
pub mod NodeLayout
mod Examples
