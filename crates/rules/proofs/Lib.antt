pub mod Measuring
pub mod Scanning
pub mod Capping
pub mod Judging
