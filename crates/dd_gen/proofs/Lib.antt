mod Commas
mod Pieces
mod Rest
mod Rows
