-- What a class file that is laid out says, or the first fault behind its layout (JVM Specification 4.1, 4.4 to 4.7). `shape` promises
-- that its answer is `shaped`, unless memory ran out. The rules stand here in the order of their places, so that the first that is
-- broken has the lowest: of the faults of Lowest.antt `shape_law` promises that the one told by `rules` is among them (`told`), that
-- none has a lower place, nor the same place where it is Shape and the one told is Unsupported (`lowest`), and that there are none
-- where the rules are kept (`none`).
use Rattle.std.specs.Prelude.{ℕ, ◌+◌, ◌*◌, List, [], map, Bool, not, ◌&&◌, ◌||◌, ◌==◌, Result, Ok, codes}
use Rattle.mvm_layout.specs.declared.fault.ClassFault.{ClassFault}
use Rattle.mvm_layout.specs.declared.fault.ClassFault.TheVariants.{Pool, Shape}
use Rattle.mvm_layout.specs.declared.parts.Item.{Item}
use Rattle.mvm_layout.specs.declared.parts.Parts.{Parts}
use Rattle.mvm_layout.specs.declared.info.ClassInfo.{ClassInfo}
use Rattle.mvm_layout.specs.Flags.{is_interface}
use Rattle.mvm_layout.specs.Pool.{entry, is_class, class_name, is_text}
use Rattle.mvm_shape.specs.Links.{is_linked}
use Rattle.mvm_base.specs.Rules.{expect, ◌and_then◌, each_from, each, each_after}
use Rattle.mvm_shape.specs.Members.{field_rule, method_rule, named_attribute, field_part, method_part}

-- the lowest entry of the constant pool with an index that names no entry of the kind that it should (4.4)
unfoldable pub linked : List Item → Result (Unit {0}) ClassFault
linked pool = each_from 1 (λ index item. expect (is_linked pool item) (Pool index)) pool

-- ---- places, counted in bytes from the beginning of the file (4.1)

-- the index of the class itself
abbrev pub this_place : ClassInfo → ℕ
this_place info = info.at + 2

-- the index of the superclass
abbrev pub superclass_place : ClassInfo → ℕ
superclass_place info = info.at + 4

-- the index of a direct superinterface, of which the first has the number 0
abbrev pub interface_place : ClassInfo → ℕ → ℕ
interface_place info number = info.at + 8 + 2 * number

-- ---- the class itself (4.1)

-- the index is that of the class `java/lang/Object`
abbrev pub names_object : List Item → ℕ → Bool
names_object pool index = is_text (codes "java/lang/Object") (class_name pool index)

-- the superclass is a class; for `java/lang/Object` there may be none
abbrev pub is_superclass : ClassInfo → Bool
is_superclass info = is_class (entry info.pool info.super_class) || (info.super_class == 0 && names_object info.pool info.this_class)

-- the superclass of an interface is `java/lang/Object`
abbrev pub is_superclass_of_interface : ClassInfo → Bool
is_superclass_of_interface info = not (is_interface info.flags) || names_object info.pool info.super_class

unfoldable pub has_superclass : ClassInfo → Bool
has_superclass info = is_superclass info && is_superclass_of_interface info

-- each direct superinterface is a class
unfoldable pub are_interfaces : ClassInfo → Result (Unit {0}) ClassFault
are_interfaces info = each_from 0 (λ number index. expect (is_class (entry info.pool index)) (Shape (interface_place info number))) info.interfaces

-- the class itself, its superclass and its superinterfaces
unfoldable pub header : ClassInfo → Result (Unit {0}) ClassFault
header info =
    expect (is_class (entry info.pool info.this_class)) (Shape (this_place info))
    and_then expect (has_superclass info) (Shape (superclass_place info))
    and_then are_interfaces info

-- ---- the whole

-- the rules on what stands behind the constant pool, in the order of the places
unfoldable pub rules : ClassInfo → Result (Unit {0}) ClassFault
rules info =
    header info
    and_then each_after [] (field_rule info.pool (is_interface info.flags)) info.fields
    and_then each_after [] (method_rule info.pool info.major (is_interface info.flags)) info.methods
    and_then each (named_attribute info.pool) info.attributes

-- what is kept of a class file
unfoldable pub parts_of : ClassInfo → Parts
parts_of info = record {
  minor = info.minor;
  major = info.major;
  pool = info.pool;
  flags = info.flags;
  this_class = info.this_class;
  super_class = info.super_class;
  interfaces = info.interfaces;
  fields = map (field_part info.pool) info.fields;
  methods = map (method_part info.pool) info.methods;
}

-- the lowest entry of the constant pool that is wrong, else the first rule that is broken, else the parts
unfoldable pub shaped : ClassInfo → Result Parts ClassFault
shaped info = linked info.pool and_then rules info and_then Ok (parts_of info)
