pub mod Commands
pub mod Cut
pub mod Drilling
pub mod Giving
