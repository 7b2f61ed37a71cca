pub mod Lines
pub mod Memory
pub mod Outside
pub mod Reading
pub mod NextLine
pub mod Parts
