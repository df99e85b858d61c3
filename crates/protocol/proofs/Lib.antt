pub mod Reasons
pub mod cases
