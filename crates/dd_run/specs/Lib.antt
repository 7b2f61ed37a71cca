pub mod Fit
pub mod Closures
pub mod Given
pub mod Answers
pub mod Numbers
