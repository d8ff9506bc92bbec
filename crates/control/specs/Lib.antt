pub mod Codes
pub mod Texts
pub mod Rules
pub mod Weights
pub mod Machine
pub mod Promises
