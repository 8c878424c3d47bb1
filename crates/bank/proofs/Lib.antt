pub mod Frames
pub mod Links
pub mod Fills
pub mod Numbering
pub mod Steps
pub mod Clears
pub mod Laws
pub mod Turns
