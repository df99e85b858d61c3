-- What each move keeps of the box as the crash argument sees it.
pub mod View
pub mod Opened
pub mod Landed
pub mod Copied
pub mod Flushed
pub mod Reopened
pub mod Mended
pub mod Moves
pub mod Announced
pub mod Finished
pub mod Places
