mod Lowest
pub mod RowLaws
pub mod ScanLaws
pub mod ConditionLaws
