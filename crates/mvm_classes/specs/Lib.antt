pub mod Finding
pub mod SetFiles
pub mod Words
