-- Laws of these definitions, for the crate above.
pub mod SoundPhrases
pub mod TakesPhrases
