-- What is wrong with a text that is no descriptor, said of all the descriptors there are (JVM Specification 4.3.2 and 4.3.3).
use Rattle.std.specs.Prelude.{◌≡◌, ◌≢◌, ℕ, List, [], ◌∷◌, ◌++◌, length, IsTrue, ◌||◌, ◌==◌}
use Rattle.mvm_base.specs.Descriptor.{spelled_field, spelled_method, IsField, IsMethod}
use Rattle.mvm_base.specs.declared.descriptor.FieldShape.{FieldShape}
use Rattle.mvm_base.specs.declared.descriptor.MethodShape.{MethodShape}
use Rattle.mvm_base.specs.declared.descriptor.DescFault.{DescFault}
use Rattle.mvm_base.specs.declared.descriptor.DescFault.TheVariants.{Empty, BadLetter, Open, Trailing, Float, OutOfMemory}

-- ---- the descriptors

-- the text spells the type of a field
pub record IsFieldText (text : List ℕ) : Type 0 where
  pub field : FieldShape
  pub fits : IsField field
  pub is : text ≡ spelled_field field

-- the text spells the types of a method
pub record IsMethodText (text : List ℕ) : Type 0 where
  pub method : MethodShape
  pub fits : IsMethod method
  pub is : text ≡ spelled_method method

-- ---- where a text leaves a set of texts

-- a text of the set begins so, and may end there
pub record IsBeginning (IsText : List ℕ → Type 0) (front : List ℕ) : Type 0 where
  pub more : List ℕ
  pub goes_on : IsText (front ++ more)

-- The letters before this one begin a text of the set, and are none. With this letter they begin none.
pub record GoesWrong (IsText : List ℕ → Type 0) (text front : List ℕ) (letter : ℕ) : Type 0 where
  pub rest : List ℕ
  pub text_is : text ≡ front ++ letter ∷ rest
  pub goes_on : IsBeginning IsText front
  pub is_short : IsText front → ⊥
  pub stops : IsBeginning IsText (front ++ letter ∷ []) → ⊥

-- the letter is F or D, and stands where a type can stand, as I can
pub record IsFloat (IsText : List ℕ → Type 0) (front : List ℕ) (letter : ℕ) : Type 0 where
  pub letter_is : IsTrue (letter == 70 || letter == 68)
  pub type_stands : IsBeginning IsText (front ++ 73 ∷ [])

-- ---- the faults

pub record IsBadAt (IsText : List ℕ → Type 0) (text : List ℕ) (place : ℕ) : Type 0 where
  pub front : List ℕ
  pub letter : ℕ
  pub place_is : place ≡ length front
  pub wrong : GoesWrong IsText text front letter
  pub no_float : IsFloat IsText front letter → ⊥

pub record HasFloat (IsText : List ℕ → Type 0) (text : List ℕ) : Type 0 where
  pub front : List ℕ
  pub letter : ℕ
  pub wrong : GoesWrong IsText text front letter
  pub float : IsFloat IsText front letter

pub record EndsInside (IsText : List ℕ → Type 0) (text : List ℕ) : Type 0 where
  pub is_some : text ≢ []
  pub is_short : IsText text → ⊥
  pub goes_on : IsBeginning IsText text

pub record GoesBeyond (IsText : List ℕ → Type 0) (text : List ℕ) : Type 0 where
  pub front : List ℕ
  pub more : List ℕ
  pub text_is : text ≡ front ++ more
  pub is_some : more ≢ []
  pub is_whole : IsText front

-- what the text has to be for this to be its fault
abbrev pub HasFault : (List ℕ → Type 0) → List ℕ → DescFault → Type 0
HasFault IsText text Empty = text ≡ []
HasFault IsText text (BadLetter place) = IsBadAt IsText text place
HasFault IsText text Open = EndsInside IsText text
HasFault IsText text Trailing = GoesBeyond IsText text
HasFault IsText text Float = HasFloat IsText text
HasFault IsText text OutOfMemory = ⊥
