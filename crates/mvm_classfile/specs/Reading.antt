-- Class files as a whole (JVM Specification, chapter 4): what bytes read as, and their first fault.
use Rattle.std.specs.Prelude.{◌≡◌, ◌<◌, ◌^◌, ℕ, List, [], ◌∷◌, length, Option, Some, None, Result, Ok, Err}
use Rattle.mvm_base.specs.Answers.{◌>>=◌}
use Rattle.mvm_base.specs.Bytes.{AreBytes}
use Rattle.mvm_layout.specs.Layout.{layout, laid, IsCode}
use Rattle.mvm_layout.specs.declared.fault.ClassFault.{ClassFault}
use Rattle.mvm_layout.specs.declared.fault.ClassFault.TheVariants.{OutOfMemory}
use Rattle.mvm_layout.specs.Infos.{AttributeParts}
use Rattle.mvm_layout.specs.declared.info.ClassInfo.{ClassInfo}
use Rattle.mvm_layout.specs.declared.info.CodeInfo.{CodeInfo}
use Rattle.mvm_layout.specs.declared.info.MemberInfo.{MemberInfo}
use Rattle.mvm_layout.specs.declared.parts.Code.{Code}
use Rattle.mvm_layout.specs.declared.parts.Item.{Item}
use Rattle.mvm_layout.specs.declared.parts.Member.{Member}
use Rattle.mvm_layout.specs.declared.parts.Parts.{Parts}
use Rattle.mvm_shape.specs.Members.{codes_among}
use Rattle.mvm_shape.specs.Shape.{linked, rules, parts_of, shaped}
use Rattle.mvm_shape.specs.Lowest.{IsWrong}

-- The bytes are the spellings of what stands in a class file, one after the other, with any attributes where attributes stand. Each
-- entry of its constant pool is linked, all its rules are kept, and these are its parts.
pub record Reads (text : List ℕ) (parts : Parts) : Type 0 where
  pub info : ClassInfo
  pub spelled : layout.spells info 0 text
  pub linked : linked info.pool ≡ Ok tt
  pub kept : rules info ≡ Ok tt
  pub parts_are : parts ≡ parts_of info

-- What the bytes read as, or their first fault: that of the layout, front to back; else the lowest entry of the constant pool that
-- names none of the kind that it should; else the lowest place that keeps a rule not.
unfoldable pub reading : List ℕ → Result Parts ClassFault
reading text = laid text >>= shaped

abbrev pub fault_in : Result Parts ClassFault → Option ClassFault
fault_in (Ok parts) = None
fault_in (Err fault) = Some fault

-- the first fault of the bytes
unfoldable pub fault_of : List ℕ → Option ClassFault
fault_of text = fault_in (reading text)

-- the bytes read as some parts
abbrev pub IsParts : List ℕ → Type 0
IsParts text = (parts : Parts) × Reads text parts

-- the bytes have a fault
abbrev pub HasFault : List ℕ → Type 0
HasFault text = (fault : ClassFault) × (fault_of text ≡ Some fault)

-- what an answer says of the bytes
abbrev pub Says : List ℕ → Result Parts ClassFault → Type 0
Says text (Ok parts) = Reads text parts
Says text (Err OutOfMemory) = Unit {0}
Says text (Err fault) = fault_of text ≡ Some fault

-- some bytes, fewer than 2^32, read as these parts
pub record IsClassFile (parts : Parts) : Type 0 where
  pub text : List ℕ
  pub bytes : AreBytes text
  pub short : length text < 2 ^ 32
  pub reads : Reads text parts

-- the bytes are laid out, the constant pool is linked, and behind it this is wrong, among other things perhaps
pub record HasWrong (text : List ℕ) (fault : ClassFault) : Type 0 where
  pub info : ClassInfo
  pub spelled : layout.spells info 0 text
  pub linked : linked info.pool ≡ Ok tt
  pub wrong : IsWrong info fault

-- ---- where the code of methods stands

-- this code is what the content of the one attribute among these that is named Code spells (4.7.3)
pub record SpellsCode (pool : List Item) (attributes : List AttributeParts) (code : Code) : Type 0 where
  pub attribute : AttributeParts
  pub only : codes_among pool attributes ≡ attribute ∷ []
  pub info : CodeInfo
  pub spelled : IsCode attribute info
  pub code_is : code ≡ info.code

-- it is; or none of them is named so, and there is no code
abbrev pub CodeStands : List Item → List AttributeParts → Option Code → Type 0
CodeStands pool attributes (Some code) = SpellsCode pool attributes code
CodeStands pool attributes None = codes_among pool attributes ≡ []

-- what stands in the file as a method is read as this one (4.6)
pub record ReadsMethod (pool : List Item) (stands : MemberInfo) (method : Member) : Type 0 where
  pub flags : method.flags ≡ stands.flags
  pub name : method.name ≡ stands.name
  pub desc : method.desc ≡ stands.desc
  pub code : CodeStands pool stands.attributes method.code
  pub constant : method.constant ≡ None
