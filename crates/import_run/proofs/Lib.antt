pub mod RowLaws
pub mod PlaceLaws
pub mod ListLaws
