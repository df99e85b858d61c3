pub mod Written
pub mod Fields
