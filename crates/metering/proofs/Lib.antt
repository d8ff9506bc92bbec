pub mod Cutting
pub mod Summing
pub mod Turning
