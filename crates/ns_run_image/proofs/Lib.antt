pub mod ExecLaws
pub mod ImageLaws
