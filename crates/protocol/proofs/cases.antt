-- The computed cases: their tables, and the evaluators that compute them.
pub mod Report
pub mod Quick
pub mod QuickRows
pub mod Known
pub mod Case
pub mod Moves
pub mod Scans
pub mod Maps
pub mod Costs
pub mod TwoPages
pub mod Refusals
pub mod Cases
pub mod Scripts
pub mod Flooded
pub mod Rejected
pub mod Disk
