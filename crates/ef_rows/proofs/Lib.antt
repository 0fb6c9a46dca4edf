pub mod Later
pub mod OneSingle
pub mod Renamed
pub mod TwoTables
