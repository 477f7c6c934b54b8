-- When two shapes are one: they have as many dimensions, and one base (JVM Specification 4.3.2).
use Rattle.std.specs.Prelude.{Bool, true, false, ◌==◌, ◌&&◌}
use Rattle.std.specs.Str.{bytes_eq}
use Rattle.mvm_base.specs.declared.descriptor.Base.{Base}
use Rattle.mvm_base.specs.declared.descriptor.Base.TheVariants.{Boolean, Byte, Char, Short, Int, Long, Object}
use Rattle.mvm_base.specs.declared.descriptor.FieldShape.{FieldShape}

abbrev pub is_base : Base → Base → Bool
is_base Boolean Boolean = true
is_base Byte Byte = true
is_base Char Char = true
is_base Short Short = true
is_base Int Int = true
is_base Long Long = true
is_base (Object name) (Object other) = bytes_eq name other
is_base _ _ = false

abbrev pub is_shape : FieldShape → FieldShape → Bool
is_shape shape other = shape.dims == other.dims && is_base shape.base other.base
