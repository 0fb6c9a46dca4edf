pub mod Refused
pub mod Forms
pub mod Modules
pub mod Found
