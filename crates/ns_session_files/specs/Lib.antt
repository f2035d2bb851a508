pub mod Making
pub mod Joint
pub mod Stood
pub mod Answer
pub mod Laws
