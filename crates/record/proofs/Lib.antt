pub mod Each
pub mod WindowLaws
pub mod LeaveLaws
pub mod RecordLaws
pub mod CallerLaws
pub mod RuleLaws
pub mod Examples
