pub mod MendLaws
pub mod StepLaws
