pub mod Beyond
pub mod Tops
pub mod Entered
pub mod Waiting
pub mod Behind
pub mod Results
pub mod Leaving
