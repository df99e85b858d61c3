pub mod DistinctLaws
