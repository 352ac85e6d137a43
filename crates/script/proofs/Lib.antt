pub mod DigitPairs
pub mod Needed
pub mod Words
