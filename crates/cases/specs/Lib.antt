pub mod Count
pub mod Meets
