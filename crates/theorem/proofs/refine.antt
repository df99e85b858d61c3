-- From bytes to the model: what each move on images, table and record is in it.
pub mod Stores
pub mod Performed
pub mod Openings
pub mod ReadyCalls
pub mod Reopens
pub mod Passes
pub mod Views
pub mod MendingCalls
pub mod Formatting
