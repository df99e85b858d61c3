pub mod RunLaws
pub mod SameLaws
