pub mod WordLaws
pub mod PassLaws
pub mod PlaceLaws
pub mod ListLaws
