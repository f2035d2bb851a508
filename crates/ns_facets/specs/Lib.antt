pub mod Board
pub mod Console
pub mod Platform
pub mod Facet
pub mod laws
