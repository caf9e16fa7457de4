-- What laws and examples show of the definitions; nothing of it has to be believed.
pub mod Examples
pub mod SoundTags
