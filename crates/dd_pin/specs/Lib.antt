pub mod History
pub mod Puts
pub mod Laws
