pub mod Digits
pub mod Exponents
pub mod Powers
pub mod Constants
pub mod Decimals
pub mod Cleanness
pub mod Examples
