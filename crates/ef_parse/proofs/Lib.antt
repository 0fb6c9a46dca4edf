pub mod Answers
pub mod Renamed
