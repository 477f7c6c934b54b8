-- The names that were met so far, as a set of texts, and lists that are joined, so that each name stands once.
use denote.Ref.{Bor}
use Rattle.std.specs.Prelude.{◌≡◌, ℕ, List, [], ◌∷◌, ◌++◌, Bool, false, not, ◌&&◌, Option, Some, None}
use Rattle.std.specs.List.{filter, list_any}
use Rattle.std.specs.BTreeSet as sorted
use Rattle.std.specs.BTreeSet.{BTreeSet}
use Rattle.std.specs.Cmp.Lexicographic.{slice_cmp}
use Rattle.std.specs.Ordering.{nat_cmp}
use Rattle.mvm_shape.specs.Members.{same_text}
use Rattle.mvm_set.specs.ClassOf.{own_walk_name}
use Rattle.mvm_set.specs.Once.{once}
use Rattle.mvm_set.specs.declared.own.OwnWalk.{OwnWalk}

abbrev pub is_seen : BTreeSet (Bor (List ℕ)) → Option (List ℕ) → Bool
is_seen seen (Some units) = sorted.contains_by (λ k. slice_cmp nat_cmp units k.now) seen
is_seen seen None = false

-- a name was met, of those that may stand twice
abbrev pub is_met : (Option (List ℕ) → Bool) → (Option (List ℕ) → Bool) → Option (List ℕ) → Bool
is_met repeats seen name = repeats name && seen name

-- one of these has this name
abbrev pub is_among : Option (List ℕ) → List OwnWalk → Bool
is_among name owns = list_any (λ own. same_text (own_walk_name own) name) owns

-- these lists, one after the other
abbrev pub joined : List (Bor (List OwnWalk)) → List OwnWalk
joined [] = []
joined (list ∷ lists) = list.now ++ joined lists

-- each name stands once in a list
abbrev pub IsOnce : Bor (List OwnWalk) → Type 0
IsOnce list = once own_walk_name list.now ≡ list.now

-- but for the names that may stand twice, each name stands once
abbrev pub AreSingle : (Option (List ℕ) → Bool) → List OwnWalk → Type 0
AreSingle repeats [] = Unit {0}
AreSingle repeats (own ∷ owns) = (repeats (own_walk_name own) ≡ false → is_among (own_walk_name own) owns ≡ false) × AreSingle repeats owns

-- those whose names were not met, each name once
abbrev pub unmet : (Option (List ℕ) → Bool) → (Option (List ℕ) → Bool) → List OwnWalk → List OwnWalk
unmet repeats seen owns = filter (λ own. not (is_met repeats seen (own_walk_name own))) (once own_walk_name owns)

-- what was kept of these is kept, whatever comes behind them
abbrev pub Keeps : (Option (List ℕ) → Bool) → List OwnWalk → (Option (List ℕ) → Bool) → List OwnWalk → (Option (List ℕ) → Bool) → List OwnWalk → Type 0
Keeps repeats owns before old after new =
    (rest : List OwnWalk) → AreSingle repeats (owns ++ rest) → new ++ unmet repeats after rest ≡ old ++ unmet repeats before (owns ++ rest)
