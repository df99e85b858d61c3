-- The box as the crash argument sees it: functions from slot and block numbers.
pub mod Base
pub mod Model
pub mod Rows
