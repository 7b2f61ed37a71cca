pub mod Union
pub mod Laws
pub mod Pieces
pub mod Inside
pub mod Evidence
