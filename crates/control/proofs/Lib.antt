pub mod Sections
pub mod Keeping
pub mod Safety
pub mod Weighing
pub mod Finding
pub mod Wording
