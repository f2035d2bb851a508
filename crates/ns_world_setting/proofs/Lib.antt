pub mod Fitting
pub mod Stages
pub mod Readiness
pub mod Walking
pub mod Telling
pub mod Starting
