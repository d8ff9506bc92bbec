pub mod Archives
pub mod Parts
pub mod Texts
pub mod Totals
pub mod Transposes
