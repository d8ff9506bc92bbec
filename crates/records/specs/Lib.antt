pub mod Layouts
pub mod Meaning
pub mod Joints
