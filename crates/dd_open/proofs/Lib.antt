pub mod Items
pub mod Ranks
pub mod Ways
pub mod Models
pub mod Growing
pub mod Placing
pub mod Stepping
pub mod Handling
