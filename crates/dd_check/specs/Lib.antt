pub mod Faults
pub mod Parts
pub mod Room
pub mod Sound
pub mod Written
pub mod Walked
