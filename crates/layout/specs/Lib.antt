pub mod Numbers
pub mod Places
pub mod Window
pub mod Stamps
pub mod LabelPage
pub mod MetaPage
pub mod PageRule
pub mod ReadDown
