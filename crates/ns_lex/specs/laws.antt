-- Laws of these definitions, for the crates above.
pub mod Stands
pub mod Blanks
pub mod Cutting
pub mod Gaps
pub mod Pieces
pub mod ReadAgain
pub mod Scanned
pub mod Singles
pub mod Steps
pub mod Symbols
pub mod Words
