pub mod Lists
pub mod Moving
pub mod Needing
pub mod Tracing
pub mod Shown
