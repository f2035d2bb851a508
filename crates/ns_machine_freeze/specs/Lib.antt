pub mod Walk
pub mod Down
