pub mod Lists
pub mod Yes
pub mod No
pub mod Spent
