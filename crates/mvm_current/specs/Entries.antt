-- What the constant pool of the class of a frame has, resolved (JVM Specification 5.4.3).
use Rattle.std.specs.Prelude.{ℕ, List, Bool, true, false, not, ◌&&◌, if◌then◌else◌, Result, Ok, Err}
use Rattle.std.specs.Str.{bytes_eq}
use Rattle.mvm_base.specs.Answers.{◌>>=◌}
use Rattle.mvm_layout.specs.Flags.{has_flag, is_static}
use Rattle.mvm_layout.specs.declared.flags.TheConstants as flag
use Rattle.mvm_native.specs.declared.out.Thrown.TheVariants.{VerifyError, IncompatibleClassChangeError, IllegalAccessError}
use Rattle.mvm_set.specs.Names.{own_name}
use Rattle.mvm_set.specs.declared.class.Lineage.{Lineage}
use Rattle.mvm_table.specs.declared.resolved.Resolved.{Resolved}
use Rattle.mvm_table.specs.declared.resolved.Resolved.TheVariants as resolved
use Rattle.mvm_member.specs.Members.{MemberName, field_named}
use Rattle.mvm_isolate.specs.Faults.{looked_up}
use Rattle.mvm_isolate.specs.Isolate.{stopped}
use Rattle.mvm_isolate.specs.Look.{Look}
use Rattle.mvm_isolate.specs.Members.{or_verify}
use Rattle.mvm_isolate.specs.Types.{ReferenceType, of_class, of_array}
use Rattle.mvm_isolate.specs.declared.stop.Stop.{Stop}
use Rattle.mvm_current.specs.Frames.{Runs, method, Frame}

-- ---- entries

abbrev pub entry_for : Look → ℕ → Runs → Result Resolved Stop
entry_for look index (method class name desc) = looked_up (look.entry class index)
entry_for look index _ = stopped VerifyError

-- the entry of an index
unfoldable pub entry_at : Look → ℕ → Frame → Result Resolved Stop
entry_at look index f = entry_for look index f.runs

abbrev pub a_field : Resolved → Result MemberName Stop
a_field (resolved.Field field) = or_verify (field_named field)
a_field _ = stopped VerifyError

abbrev pub name_of : Lineage → Result (List ℕ) Stop
name_of class = or_verify (own_name class.file)

-- a class or an array class
abbrev pub a_type : Resolved → Result ReferenceType Stop
a_type (resolved.Class class) = name_of class >>= λ name. Ok (of_class name)
a_type (resolved.Array shape) = Ok (of_array shape)
a_type _ = stopped VerifyError

-- the type that an entry names
unfoldable pub type_entry : Look → ℕ → Frame → Result ReferenceType Stop
type_entry look index f = entry_at look index f >>= a_type

abbrev pub of_sort : Bool → MemberName → Result MemberName Stop
of_sort true m = if is_static m.flags then Ok m else stopped IncompatibleClassChangeError
of_sort false m = if is_static m.flags then stopped IncompatibleClassChangeError else Ok m

abbrev pub field_in : Bool → Resolved → Result MemberName Stop
field_in static found = a_field found >>= of_sort static

-- the field that an entry names, which is static or is not
unfoldable pub field_entry : Look → Bool → ℕ → Frame → Result MemberName Stop
field_entry look static index f = entry_at look index f >>= field_in static

-- ---- stores to final fields (6.5, under putfield and putstatic)

abbrev pub is_method_of : List ℕ → List ℕ → Runs → Bool
is_method_of class name (method holder called desc) = bytes_eq class holder && bytes_eq called name
is_method_of class name _ = false

-- a method of this name of the field's own class may store to it, where it is final; any may where it is not
unfoldable pub may_store : List ℕ → MemberName → Frame → Result (Unit {0}) Stop
may_store name m f = if has_flag flag.FINAL m.flags && not (is_method_of m.class name f.runs) then stopped IllegalAccessError else Ok tt
