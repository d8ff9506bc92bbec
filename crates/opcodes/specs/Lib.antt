pub mod Families
pub mod Mnemonics
pub mod Named
pub mod Numbers
pub mod Rows
