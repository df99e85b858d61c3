pub mod Runs
pub mod Equal
