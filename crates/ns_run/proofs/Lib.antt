pub mod ImageLaws
pub mod KeepLaws
pub mod LineLaws
pub mod PartLaws
pub mod ReportLaws
pub mod SessionLaws
pub mod StoreLaws
pub mod TextLaws
