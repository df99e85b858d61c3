pub mod FoundLaws
pub mod PlaceTurnLaws
