pub mod Lists
pub mod Served
pub mod AllEqual
pub mod Grammar
