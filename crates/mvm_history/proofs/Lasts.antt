-- The stamp of the last entry, as code reads it.
use Rattle.std.proofs.Common.{◌≡◌, ℕ, suc, ◌-◌, List, [], ◌∷◌, length, slice_get, Option, Some, None, refl, sym, ap, ◌∙◌, arith}
use Rattle.mvm_history.specs.declared.entry.Entry.{Entry}
use Rattle.mvm_history.specs.Stamps.{last_from}

last_entry : Entry → List Entry → Entry
last_entry e [] = e
last_entry e (f ∷ es) = last_entry f es

last_place : (e : Entry) (es : List Entry) → slice_get (e ∷ es) (length es) ≡ Some (last_entry e es)
unfolding last_entry
last_place e [] = refl
last_place e (f ∷ es) = last_place f es

last_stamped : (e : Entry) (es : List Entry) → last_from e.stamp es ≡ (last_entry e es).stamp
unfolding last_from last_entry
last_stamped e [] = refl
last_stamped e (f ∷ es) = last_stamped f es

one_less : (n : ℕ) → suc n - 1 ≡ n
one_less n = omega arith

abbrev pub stamp_at : ℕ → Option Entry → ℕ
stamp_at stamp None = stamp
stamp_at stamp (Some e) = e.stamp

last_is : (stamp : ℕ) (es : List Entry) → last_from stamp es ≡ stamp_at stamp (slice_get es (length es - 1))
unfolding last_from last_entry
last_is stamp [] = refl
last_is stamp (e ∷ es) =
    last_stamped e es ∙ ap (stamp_at stamp) (sym (last_place e es) ∙ ap (slice_get (e ∷ es)) (sym (one_less (length es))))

-- the entry that code finds at the end, or that it finds none
pub last_there : (es : List Entry) (o : Option Entry) (e : Entry) → o ≡ slice_get es (length es - 1) → o ≡ Some e → e.stamp ≡ last_from 0 es
last_there es o e found is = sym (last_is 0 es ∙ ap (stamp_at 0) (sym found ∙ is))

pub last_missing : (es : List Entry) (o : Option Entry) → o ≡ slice_get es (length es - 1) → o ≡ None → 0 ≡ last_from 0 es
last_missing es o found is = sym (last_is 0 es ∙ ap (stamp_at 0) (sym found ∙ is))
