pub mod At
pub mod Replay
pub mod Laws
