pub mod Lists
pub mod Lookups
pub mod Sides
pub mod Tiles
