pub mod Adding
pub mod Certifying
pub mod OtherLengths
pub mod Passing
mod Loops
mod Entries
mod Finding
pub mod Certain
pub mod Stopping
pub mod Gathering
pub mod LinesBuilt
mod Listing
pub mod Single
mod ReadBack
mod WorldBack
mod PrintedReads
