pub mod BitLaws
pub mod TwiceLaws
