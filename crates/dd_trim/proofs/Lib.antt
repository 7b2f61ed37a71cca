pub mod Marking
pub mod Kept
pub mod Renumbered
pub mod Trimming
