pub mod JudgingLaws
pub mod ServeLaws
pub mod ReadyLaws
pub mod SlotLaws
pub mod ServedLaws
pub mod CallLaws
