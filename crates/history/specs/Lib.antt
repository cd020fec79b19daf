pub mod Run
pub mod Demand3
pub mod Listed
