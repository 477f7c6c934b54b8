pub mod Kept
pub mod Reading
pub mod Writing
pub use Rattle.mvm_layout.specs.Layout
pub use Rattle.mvm_layout.specs.Pool
pub use Rattle.mvm_shape.specs.Shape
