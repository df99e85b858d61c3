pub mod ImageLaws
pub mod Agrees
