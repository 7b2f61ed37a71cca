pub mod Members
pub mod Gives
pub mod InOrder
