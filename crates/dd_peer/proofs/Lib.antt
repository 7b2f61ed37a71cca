pub mod Crowds
pub mod Accepted
pub mod Marking
pub mod Listed
