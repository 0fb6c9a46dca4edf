pub mod Kinds
pub mod Unbuilt
pub mod Adds
