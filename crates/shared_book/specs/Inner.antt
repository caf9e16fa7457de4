pub mod Kept
pub mod Seat
pub mod Keeps
pub mod Refusal
pub mod Misplaced
pub mod Ends
pub mod Numbers
pub mod ShortLists
