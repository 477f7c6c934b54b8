-- Access flags by their names (JVM Specification 4.1, 4.5, 4.6).
use Rattle.std.specs.Prelude.{ℕ, Bool, not, ◌||◌, ◌==◌}
use Rattle.std.specs.Int.Bits.{bit_and}
use Rattle.mvm_layout.specs.declared.flags.TheConstants as flag

-- flags have a flag among them
abbrev pub has_flag : ℕ → ℕ → Bool
has_flag one flags = not (bit_and flags one == 0)

-- of a field or a method: it is the class's, and not an object's
abbrev pub is_static : ℕ → Bool
is_static flags = has_flag flag.STATIC flags

-- of a class: it is an interface
abbrev pub is_interface : ℕ → Bool
is_interface flags = has_flag flag.INTERFACE flags

-- of a method: it is native or abstract, and so has no code (4.7.3)
abbrev pub has_no_code : ℕ → Bool
has_no_code flags = has_flag flag.NATIVE flags || has_flag flag.ABSTRACT flags
