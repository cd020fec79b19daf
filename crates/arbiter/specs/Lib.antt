pub mod Requests
pub mod RoundRobin
pub mod Matrix
pub mod Arbiter
