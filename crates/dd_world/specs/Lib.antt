pub mod Elements
pub mod World
pub mod Named
pub mod Tests
pub mod Faults
pub mod Mentions
pub mod Sketches
pub mod Kinds
