pub mod Cells
pub mod Operands
pub mod Parts
pub mod Texts
