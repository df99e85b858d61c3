pub mod Closing
pub mod Counts
