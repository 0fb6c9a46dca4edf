pub mod Budgets
pub mod Nodes
pub mod Matching
pub mod Lowers
pub mod Guards
