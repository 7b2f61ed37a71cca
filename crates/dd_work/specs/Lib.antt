pub mod Fit
pub mod Settled
pub mod Turns
