pub mod Drive
pub mod Fault
pub mod Line
pub mod Standing
pub mod Store
pub mod Stream
pub mod Telling
