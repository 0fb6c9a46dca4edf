mod Sets
mod Choice
mod Steps
mod Tops
mod Passing
mod Opened
mod Runs
pub mod Alike
pub mod OneValue
