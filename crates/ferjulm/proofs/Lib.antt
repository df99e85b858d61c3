pub mod CodeLaws
pub mod CodesApart
pub mod ListLaws
pub mod ViewLaws
pub mod MapLaws
pub mod CostLaws
