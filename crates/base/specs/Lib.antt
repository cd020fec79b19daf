pub mod Bits
pub mod Flit
pub mod Numbers
pub mod Refusal
pub mod Reply
pub mod Search
pub mod Sizes
