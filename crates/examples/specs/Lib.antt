pub mod Listing
pub mod Starred
