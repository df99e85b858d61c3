pub mod Found
pub mod PlaceTurns
