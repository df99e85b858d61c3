-- Why a call says no: each test says what document 01 says, and each number is used exactly there.
pub mod Basics
pub mod Records
pub mod RowsRules
pub mod PagesRules
pub mod Slots
pub mod Counted
pub mod Lists
pub mod Same
pub mod Answers
pub mod Stored
pub mod Exact
