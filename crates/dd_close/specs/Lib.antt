pub mod Fits
pub mod Drafts
pub mod Parts
pub mod Logs
pub mod Nodes
pub mod Orders
pub mod Writes
pub mod NotBoth
