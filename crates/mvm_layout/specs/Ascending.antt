-- Places ascend: what stands in a file stands one behind the other.
use Rattle.std.specs.Prelude.{ℕ, ◌+◌, ◌*◌, ◌≤◌, List, [], ◌∷◌, length}
use Rattle.mvm_layout.specs.Infos.{AttributeParts}
use Rattle.mvm_layout.specs.declared.info.MemberInfo.{MemberInfo}
use Rattle.mvm_layout.specs.declared.info.ClassInfo.{ClassInfo}

-- Attributes stand between two places: each begins behind the one before it, of which the name takes 2 bytes and the length 4.
abbrev pub AttributesAscend : ℕ → List AttributeParts → ℕ → Type 0
AttributesAscend from [] to = from ≤ to
AttributesAscend from (attribute ∷ more) to = (from ≤ attribute.at) × AttributesAscend (attribute.at + 6 + length attribute.content) more to

-- Members stand between two places: each begins behind the one before it, and its attributes stand behind the 8 bytes of its
-- flags, its name, its descriptor and their count, and before the next member.
abbrev pub MembersAscend : ℕ → List MemberInfo → ℕ → Type 0
MembersAscend from [] to = from ≤ to
MembersAscend from (member ∷ more) to = (from ≤ member.at) × (next : ℕ) × AttributesAscend (member.at + 8) member.attributes next × MembersAscend next more to

-- the interfaces, the fields, the methods, and the attributes of the class, which end at a place
pub record PlacesAscend (info : ClassInfo) : Type 0 where
  pub methods_from : ℕ
  pub attributes_from : ℕ
  pub to : ℕ
  pub fields : MembersAscend (info.at + 8 + 2 * length info.interfaces) info.fields methods_from
  pub methods : MembersAscend methods_from info.methods attributes_from
  pub attributes : AttributesAscend attributes_from info.attributes to
