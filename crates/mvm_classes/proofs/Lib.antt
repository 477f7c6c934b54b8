pub mod EntryMore
pub mod FileMore
pub mod WordMore
