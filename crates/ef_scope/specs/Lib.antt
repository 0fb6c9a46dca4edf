pub mod Marks
pub mod Trail
pub mod Walks
