-- What the places and the counts of a class file keep to, since the file has fewer than 2^32 bytes.
use Rattle.std.specs.Prelude.{◌+◌, ◌*◌, ◌<◌, ◌^◌, length, All}
use Rattle.mvm_layout.specs.declared.parts.Item.{Item}
use Rattle.mvm_layout.specs.declared.parts.Item.TheVariants.{Utf8}
use Rattle.mvm_layout.specs.declared.info.MemberInfo.{MemberInfo}
use Rattle.mvm_layout.specs.declared.info.ClassInfo.{ClassInfo}

-- where the entry is a text, its units can be counted in 32 bits
abbrev pub HasFewUnits : Item → Type 0
HasFewUnits (Utf8 text) = length text < 2 ^ 32
HasFewUnits _ = Unit {0}

-- The place behind the fewest bytes that a member takes, its flags, name, descriptor and count of attributes, is one of a file.
abbrev pub StandsWithin : MemberInfo → Type 0
StandsWithin member = member.at + 8 < 2 ^ 32

-- places and counts as a file has them
pub record IsWithinFile (info : ClassInfo) : Type 0 where
  -- the place behind the indices of the interfaces is one of a file
  pub header : info.at + 8 + 2 * length info.interfaces < 2 ^ 32
  -- each index of an entry, and the count that is one more than the last, is a number of two bytes
  pub pool : length info.pool < 65535
  pub texts : All HasFewUnits info.pool
  pub fields : All StandsWithin info.fields
  pub methods : All StandsWithin info.methods
