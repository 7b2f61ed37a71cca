pub mod Apps
pub mod Numbers
pub mod Suits
pub mod Words
