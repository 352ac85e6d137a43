pub mod Coordinates
pub mod Painting
pub mod Pointwise
pub mod Laws
pub mod Clips
pub mod Drawings
pub mod NextColumns
pub mod Sweeps
