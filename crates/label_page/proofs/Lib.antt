pub mod LabelReads
pub mod LabelBuilt
