pub mod Window
pub mod Callers
pub mod Record
pub mod Rule
