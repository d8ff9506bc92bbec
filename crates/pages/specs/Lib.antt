pub mod Refusals
pub mod Placements
pub mod Pages
pub mod Tables
pub mod Arrangements
pub mod Changes
pub mod Laws
