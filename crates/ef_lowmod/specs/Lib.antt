pub mod Clauses
pub mod Parameters
pub mod Function
pub mod Info
pub mod Outline
pub mod Form
pub mod Whole
pub mod Exports
