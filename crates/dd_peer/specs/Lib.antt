pub mod Rules
pub mod Versions
pub mod Question
pub mod Refusals
pub mod Relevant
pub mod Marks
