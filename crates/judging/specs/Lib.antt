pub mod Judging
pub mod Fits
