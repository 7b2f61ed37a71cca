pub mod Evidence
pub mod Proved
