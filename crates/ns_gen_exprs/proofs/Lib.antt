pub mod Saying
pub mod Setting
pub mod Walking
pub mod Cascaded
pub mod Firsts
pub mod Alone
