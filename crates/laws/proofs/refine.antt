-- From bytes to the model: windows, flags, rows and entries, and what is counted and swept for.
pub mod Windows
pub mod Flags
pub mod Tables
pub mod Conditions
pub mod Metas
pub mod Counting
pub mod Sweeps
pub mod Abstract
pub mod Callers
pub mod Entries
