pub mod DispatchLaws
pub mod ViewReads
pub mod MapMade
pub mod CostMade
