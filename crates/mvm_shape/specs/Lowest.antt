-- What can be wrong with a class file behind its constant pool (JVM Specification 4.1 to 4.7): each rule that may be broken, with the
-- fault that it is, as a list without an order. Of all the faults of a file one is told: that of the lowest place, and at one place
-- Shape before Unsupported, which is the lowest rank. `shape_law` says so of `rules` (Shape.antt), which tests them in an order.
use Rattle.std.specs.Prelude.{◌≡◌, ℕ, ◌+◌, ◌*◌, ◌⊎◌, List, [], ◌∷◌, ◌++◌, length, Bool, true, false, not, ◌&&◌, ◌||◌, nat_le, Option, Some, None, Result, Err, codes}
use Rattle.mvm_base.specs.Rules.{expect}
use Rattle.mvm_layout.specs.Infos.{AttributeParts}
use Rattle.mvm_layout.specs.Layout.{code_in}
use Rattle.mvm_layout.specs.declared.fault.ClassFault.{ClassFault}
use Rattle.mvm_layout.specs.declared.fault.ClassFault.TheVariants.{Shape, Unsupported}
use Rattle.mvm_layout.specs.declared.info.MemberInfo.{MemberInfo}
use Rattle.mvm_layout.specs.declared.info.ClassInfo.{ClassInfo}
use Rattle.mvm_layout.specs.declared.info.CodeInfo.{CodeInfo}
use Rattle.mvm_layout.specs.declared.parts.Item.{Item}
use Rattle.mvm_layout.specs.Flags.{is_static, is_interface}
use Rattle.mvm_layout.specs.Pool.{entry, is_class, is_utf8, text}
use Rattle.mvm_shape.specs.Members.{name_place, descriptor_place, is_unqualified, is_method_name, holds, field_descriptor, method_descriptor, is_named, constants_among, is_constant_value, is_repeated, has_right_code, keeps_interface_flags, keeps_interface_version}
use Rattle.mvm_shape.specs.Shape.{this_place, superclass_place, interface_place, is_superclass, is_superclass_of_interface}

-- faults by their places; at one place Shape stands before Unsupported
abbrev pub rank : ClassFault → ℕ
rank (Shape at) = 2 * at
rank (Unsupported at) = 2 * at + 1
rank _ = 0

-- ---- words

-- the rule is broken, and this is its fault
abbrev pub Breaks : Result (Unit {0}) ClassFault → ClassFault → Type 0
Breaks rule fault = rule ≡ Err fault

-- the test does not hold, and this is the fault that it then is
abbrev pub Unless : Bool → ClassFault → ClassFault → Type 0
Unless test own fault = Breaks (expect test own) fault

-- it holds of one of the values
abbrev pub SomeOf : {A : Type 0} → (A → Type 0) → List A → Type 0
SomeOf Holds [] = ⊥
SomeOf Holds (value ∷ values) = Holds value ⊎ SomeOf Holds values

-- it holds of one of the values and its number, where the first has this number
abbrev pub SomeNumbered : {A : Type 0} → ℕ → (ℕ → A → Type 0) → List A → Type 0
SomeNumbered number Holds [] = ⊥
SomeNumbered number Holds (value ∷ values) = Holds number value ⊎ SomeNumbered (number + 1) Holds values

-- it holds of one of the values and those before it, where these are before the first
abbrev pub SomeAfter : {A : Type 0} → List A → (List A → A → Type 0) → List A → Type 0
SomeAfter before Holds [] = ⊥
SomeAfter before Holds (value ∷ values) = Holds before value ⊎ SomeAfter (before ++ value ∷ []) Holds values

-- ---- the class (4.1)

-- the class itself is no class of the pool
abbrev pub ThisFault : ClassInfo → ClassFault → Type 0
ThisFault info fault = Unless (is_class (entry info.pool info.this_class)) (Shape (this_place info)) fault

-- the superclass is no class of the pool, and the class is not `java/lang/Object` without one
abbrev pub SuperclassFault : ClassInfo → ClassFault → Type 0
SuperclassFault info fault = Unless (is_superclass info) (Shape (superclass_place info)) fault

-- the superclass of an interface is another than `java/lang/Object`
abbrev pub InterfaceSuperclassFault : ClassInfo → ClassFault → Type 0
InterfaceSuperclassFault info fault = Unless (is_superclass_of_interface info) (Shape (superclass_place info)) fault

-- a direct superinterface is no class of the pool
abbrev pub SuperinterfaceFault : ClassInfo → ClassFault → Type 0
SuperinterfaceFault info fault = SomeNumbered 0 (λ number index. Unless (is_class (entry info.pool index)) (Shape (interface_place info number)) fault) info.interfaces

abbrev pub HeaderFault : ClassInfo → ClassFault → Type 0
HeaderFault info fault = ThisFault info fault ⊎ SuperclassFault info fault ⊎ InterfaceSuperclassFault info fault ⊎ SuperinterfaceFault info fault

-- ---- attributes (4.7)

-- its name is no text
abbrev pub NameFault : List Item → AttributeParts → ClassFault → Type 0
NameFault pool attribute fault = Unless (is_utf8 (entry pool attribute.name)) (Shape attribute.at) fault

-- it is the ConstantValue of a static field, and no value that the field may have (4.7.2)
abbrev pub ConstantFault : List Item → MemberInfo → AttributeParts → ClassFault → Type 0
ConstantFault pool field attribute fault =
    Unless (not (is_named pool (codes "ConstantValue") attribute && is_static field.flags) || is_constant_value pool field.desc attribute.content) (Shape attribute.at) fault

abbrev pub FieldAttributeFault : List Item → MemberInfo → AttributeParts → ClassFault → Type 0
FieldAttributeFault pool field attribute fault = NameFault pool attribute fault ⊎ ConstantFault pool field attribute fault

-- the content of a Code at this place is no code, or the name of an attribute in it is no text (4.7.3)
abbrev pub ContentFault : List Item → ℕ → Option CodeInfo → ClassFault → Type 0
ContentFault pool at None fault = Breaks (Err (Shape at)) fault
ContentFault pool at (Some info) fault = SomeOf (λ attribute. NameFault pool attribute fault) info.attributes

-- it is a Code, and its content is wrong
abbrev pub CodeFault : Bool → List Item → AttributeParts → ClassFault → Type 0
CodeFault true pool attribute fault = ContentFault pool attribute.at (code_in attribute) fault
CodeFault false pool attribute fault = ⊥

abbrev pub MethodAttributeFault : List Item → AttributeParts → ClassFault → Type 0
MethodAttributeFault pool attribute fault = NameFault pool attribute fault ⊎ CodeFault (is_named pool (codes "Code") attribute) pool attribute fault

-- ---- fields and methods

-- a field or a method before it has its name and descriptor (4.5, 4.6)
abbrev pub RepeatedFault : List Item → List MemberInfo → MemberInfo → ClassFault → Type 0
RepeatedFault pool before member fault = Unless (not (is_repeated pool before member)) (Shape member.at) fault

-- it has a second ConstantValue (4.7.2)
abbrev pub SecondConstantFault : List Item → MemberInfo → ClassFault → Type 0
SecondConstantFault pool field fault = Unless (nat_le (length (constants_among pool field.attributes)) 1) (Shape field.at) fault

-- it is an interface's, and not static (4.5)
abbrev pub InterfaceFieldFault : Bool → MemberInfo → ClassFault → Type 0
InterfaceFieldFault is_interface field fault = Unless (not is_interface || is_static field.flags) (Shape field.at) fault

-- its name is no text, or none that a field may have (4.2.2)
abbrev pub FieldNameFault : List Item → MemberInfo → ClassFault → Type 0
FieldNameFault pool field fault = Unless (holds is_unqualified (text pool field.name)) (Shape (name_place field)) fault

-- its descriptor is no text, or none of a field, or has a float (4.3.2)
abbrev pub FieldDescriptorFault : List Item → MemberInfo → ClassFault → Type 0
FieldDescriptorFault pool field fault = Breaks (field_descriptor (descriptor_place field) (text pool field.desc)) fault

-- a field, with the fields before it (4.5)
abbrev pub FieldFault : List Item → Bool → List MemberInfo → MemberInfo → ClassFault → Type 0
FieldFault pool is_interface before field fault =
    RepeatedFault pool before field fault
    ⊎ SecondConstantFault pool field fault
    ⊎ InterfaceFieldFault is_interface field fault
    ⊎ FieldNameFault pool field fault
    ⊎ FieldDescriptorFault pool field fault
    ⊎ SomeOf (λ attribute. FieldAttributeFault pool field attribute fault) field.attributes

-- it has not one Code, or, where it is native or abstract, not none (4.7.3)
abbrev pub CodeCountFault : List Item → MemberInfo → ClassFault → Type 0
CodeCountFault pool method fault = Unless (has_right_code pool method) (Shape method.at) fault

-- it is code of an interface, in a version that knows such code, without the flags for it (4.6)
abbrev pub InterfaceFlagsFault : List Item → ℕ → Bool → MemberInfo → ClassFault → Type 0
InterfaceFlagsFault pool major is_interface method fault = Unless (keeps_interface_flags pool major is_interface method) (Shape method.at) fault

-- it is code of an interface, in a version that knows none (4.6)
abbrev pub InterfaceVersionFault : List Item → ℕ → Bool → MemberInfo → ClassFault → Type 0
InterfaceVersionFault pool major is_interface method fault = Unless (keeps_interface_version pool major is_interface method) (Unsupported method.at) fault

-- its name is no text, or none that a method may have (4.2.2)
abbrev pub MethodNameFault : List Item → MemberInfo → ClassFault → Type 0
MethodNameFault pool method fault = Unless (holds is_method_name (text pool method.name)) (Shape (name_place method)) fault

-- its descriptor is no text, or none of a method, or has a float, or its parameters take more than 255 slots (4.3.3)
abbrev pub MethodDescriptorFault : List Item → MemberInfo → ClassFault → Type 0
MethodDescriptorFault pool method fault = Breaks (method_descriptor (descriptor_place method) method.flags (text pool method.desc)) fault

-- a method, with the methods before it (4.6)
abbrev pub MethodFault : List Item → ℕ → Bool → List MemberInfo → MemberInfo → ClassFault → Type 0
MethodFault pool major is_interface before method fault =
    RepeatedFault pool before method fault
    ⊎ CodeCountFault pool method fault
    ⊎ InterfaceFlagsFault pool major is_interface method fault
    ⊎ InterfaceVersionFault pool major is_interface method fault
    ⊎ MethodNameFault pool method fault
    ⊎ MethodDescriptorFault pool method fault
    ⊎ SomeOf (λ attribute. MethodAttributeFault pool attribute fault) method.attributes

-- ---- the whole

-- the file has this fault behind its constant pool, among others perhaps
abbrev pub IsWrong : ClassInfo → ClassFault → Type 0
IsWrong info fault =
    HeaderFault info fault
    ⊎ SomeAfter [] (λ before field. FieldFault info.pool (is_interface info.flags) before field fault) info.fields
    ⊎ SomeAfter [] (λ before method. MethodFault info.pool info.major (is_interface info.flags) before method fault) info.methods
    ⊎ SomeOf (λ attribute. NameFault info.pool attribute fault) info.attributes
