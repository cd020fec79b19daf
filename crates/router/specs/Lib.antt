pub mod Fitting
pub mod Rows
pub mod Picks
pub mod Grants
pub mod Whole
pub mod Running
pub mod Inside
