pub mod RunEndLaws
pub mod FairLaws
pub mod PlacedLaws
pub mod RunLaws
