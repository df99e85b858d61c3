pub mod Copied
pub mod PageLaws
pub mod WordLaws
pub mod PadLaws
