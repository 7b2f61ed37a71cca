pub mod Places
pub mod KeyLists
pub mod Labels
pub mod Satisfied
pub mod NormalExtra
pub mod Tabled
mod Rows
