-- Lists in which each class stands once, by its name, and the first of a list.
use Rattle.std.specs.Prelude.{◌≡◌, ℕ, List, [], ◌∷◌, Bool, not, Option, Some, None, option_and_then}
use Rattle.std.specs.List.{list_any, filter}
use Rattle.mvm_shape.specs.Members.{same_text}

-- one of them has the name of this one
abbrev pub has : {A : Type 0} → (A → Option (List ℕ)) → List A → A → Bool
has name items item = list_any (λ other. same_text (name other) (name item)) items

-- those of another name than this one
abbrev pub without : {A : Type 0} → (A → Option (List ℕ)) → A → List A → List A
without name item items = filter (λ other. not (same_text (name other) (name item))) items

-- each name once, at its first place
abbrev pub once : {A : Type 0} → (A → Option (List ℕ)) → List A → List A
once name [] = []
once name (item ∷ items) = item ∷ without name item (once name items)

-- each of these is the one that is kept under its name
abbrev pub AreKept : {A : Type 0} → (A → Option (List ℕ)) → (List ℕ → Option A) → List A → Type 0
AreKept name kept [] = Unit {0}
AreKept name kept (item ∷ items) = (option_and_then kept (name item) ≡ Some item) × AreKept name kept items

-- ---- the first

abbrev pub or_else : {A : Type 0} → Option A → Option A → Option A
or_else (Some one) other = Some one
or_else None other = other

-- what the first of them has that has any
abbrev pub first : {A B : Type 0} → (A → Option B) → List A → Option B
first look [] = None
first look (item ∷ items) = or_else (look item) (first look items)
