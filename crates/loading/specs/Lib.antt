pub mod Images
pub mod Instructions
pub mod Verdicts
pub mod Meaning
pub mod Trust
pub mod Examples
pub mod Decoded
