pub mod Errors
pub mod Numbers
pub mod Bytes
pub mod Pieces
pub mod Fields
pub mod Commands
