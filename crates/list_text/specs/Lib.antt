pub mod ListText
