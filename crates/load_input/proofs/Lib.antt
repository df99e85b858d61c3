pub mod InputLaws
pub mod InputCases
