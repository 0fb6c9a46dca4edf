pub mod Parts
pub mod Values
pub mod Stack
pub mod Expressions
pub mod Constructs
pub mod Forms
pub mod Tokens
