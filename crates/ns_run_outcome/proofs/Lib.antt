pub mod KeepLaws
pub mod PieceLaws
