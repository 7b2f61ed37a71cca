pub mod Ending
pub mod Entries
pub mod Keys
