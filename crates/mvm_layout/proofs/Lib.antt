pub mod Exactness
pub mod Loops
pub mod Texts
pub mod Layouts
pub mod Within
pub mod Cuts
pub mod Ascending
