pub mod Caps
pub mod Maps
pub mod Judgments
