pub mod Initialising
pub mod Supers
pub mod Starting
pub mod Left
pub mod Firsts
