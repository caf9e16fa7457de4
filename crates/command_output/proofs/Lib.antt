pub mod Documents
pub mod FileFacts
pub mod OneStream
pub mod PartsWritten
