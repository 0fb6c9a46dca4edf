pub mod Classes
pub mod Rules
pub mod Tables
pub mod Sound
pub mod Erlang
pub mod Makes
