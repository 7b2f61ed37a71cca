mod EqualKeys
mod Seeing
