pub mod Opening
pub mod Alone
pub mod Tests
pub mod Written
pub mod Source
pub mod Stated
