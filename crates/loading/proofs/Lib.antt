pub mod Passing
pub mod Worked
pub mod Filling
pub mod Chunking
