pub mod ApplicationLaws
pub mod FormLaws
pub mod LineLaws
pub mod NumberLaws
pub mod OwnLaws
pub mod PartLaws
pub mod RangeLaws
pub mod ReadingLaws
