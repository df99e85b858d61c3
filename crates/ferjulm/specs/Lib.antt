pub mod Calls
pub mod View
pub mod Map
pub mod Cost
pub mod List
pub mod Lists
pub mod Label
