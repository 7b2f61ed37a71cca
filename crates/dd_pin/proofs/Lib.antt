pub mod Rows
pub mod Counted
pub mod Pins
