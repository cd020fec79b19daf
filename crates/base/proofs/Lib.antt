pub mod Bits
pub mod Configurations
pub mod Count
pub mod Flits
pub mod Lists
pub mod Search
pub mod Zeros
