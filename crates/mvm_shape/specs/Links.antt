-- What the indices in entries of the constant pool name (JVM Specification 4.4).
use Rattle.std.specs.Prelude.{List, Bool, true, ◌&&◌}
use Rattle.mvm_layout.specs.declared.parts.Item.{Item}
use Rattle.mvm_layout.specs.declared.parts.Item.TheVariants.{Class, Str, Fieldref, Methodref, InterfaceMethodref, NameAndType, MethodType, InvokeDynamic}
use Rattle.mvm_layout.specs.Pool.{entry, is_utf8, is_class, is_name_and_type}

-- Each index in an entry names an entry of the kind that it should. A method handle is not looked into, nor is the bootstrap
-- method of a call site.
abbrev pub is_linked : List Item → Item → Bool
is_linked pool (Class name) = is_utf8 (entry pool name)
is_linked pool (Str text) = is_utf8 (entry pool text)
is_linked pool (MethodType desc) = is_utf8 (entry pool desc)
is_linked pool (Fieldref class member) = is_class (entry pool class) && is_name_and_type (entry pool member)
is_linked pool (Methodref class member) = is_class (entry pool class) && is_name_and_type (entry pool member)
is_linked pool (InterfaceMethodref class member) = is_class (entry pool class) && is_name_and_type (entry pool member)
is_linked pool (NameAndType name desc) = is_utf8 (entry pool name) && is_utf8 (entry pool desc)
is_linked pool (InvokeDynamic bootstrap member) = is_name_and_type (entry pool member)
is_linked pool _ = true
