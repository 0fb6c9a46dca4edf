pub mod Prints
pub mod Segments
