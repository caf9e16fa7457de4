pub mod Replies
pub mod Answers
pub mod Recordings
pub mod JsonReply
pub mod Inner
