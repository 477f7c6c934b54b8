pub mod Links
pub mod Members
pub mod Shape
pub mod TextFacts
pub mod TextNumbers
pub mod Lowest
