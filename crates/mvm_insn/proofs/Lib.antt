pub mod Inside
pub mod Keys
pub mod RowLaws
pub mod Runs
pub mod Tables
