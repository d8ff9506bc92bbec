pub mod Tens
pub mod Rounding
pub mod Values
pub mod Examples
