pub mod ReadLaws
pub mod StoredLaws
pub mod RuleLaws
pub mod ReopenLaws
