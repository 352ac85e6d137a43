pub mod Lines
pub mod RamBytes
pub mod Rams
pub mod Panels
pub mod Answers
