pub mod StateLaws
pub mod PlaceLaws
pub mod ListLaws
