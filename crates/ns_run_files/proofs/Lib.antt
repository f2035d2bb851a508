pub mod AloneLaws
pub mod GuardLaws
pub mod LayoutLaws
pub mod TextLaws
pub mod SendLaws
pub mod RunLaws
