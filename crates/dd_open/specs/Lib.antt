pub mod NotBoth
pub mod Ways
pub mod Models
pub mod Builds
pub mod Places
