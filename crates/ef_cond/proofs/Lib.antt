pub mod Tops
pub mod Alike
pub mod OneVerdict
pub mod Powers
