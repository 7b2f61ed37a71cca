pub mod Answering
pub mod Buffer
pub mod Feeds
pub mod Pieces
pub mod Readings
pub mod Stopping
