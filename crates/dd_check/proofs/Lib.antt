pub mod Bridges
pub mod ByReason
pub mod Faulty
pub mod NormalWalk
pub mod PartForms
pub mod Sizes
pub mod Sound
pub mod Sources
