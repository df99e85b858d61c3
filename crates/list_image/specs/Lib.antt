pub mod Listing
pub mod Agrees
