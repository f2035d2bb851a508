pub mod Before
pub mod Trace
pub mod Nearing
pub mod Laws
