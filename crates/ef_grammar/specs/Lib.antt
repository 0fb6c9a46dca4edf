pub mod Grammar
pub mod Table
pub mod Shown
pub mod Answers
pub mod Reads
