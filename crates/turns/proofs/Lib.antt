pub mod SweepingLaws
pub mod TurnLaws
