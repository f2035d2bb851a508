-- Laws of these definitions, for the crates above. They are lemmas, as a clause can't range over types.
pub mod Loops
pub mod Sound
pub mod SoundLists
pub mod SoundMarks
pub mod SoundPatterns
pub mod SoundTokens
pub mod Takes
pub mod TakesTokens
pub mod Ways
