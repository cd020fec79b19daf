pub mod File
pub mod Accepted
pub mod Calls
pub mod Histories
pub mod Changed
