pub mod KeepingLaws
pub mod MakingLaws
pub mod PartLaws
pub mod StandingLaws
pub mod TellingLaws
