pub mod Lists
pub mod Extending
pub mod Taking
pub mod Posting
pub mod Fitting
pub mod Opening
