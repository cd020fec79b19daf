pub mod Same
pub mod Unsound
pub mod Refusals
pub mod Depths
pub mod Limits
pub mod Answering
