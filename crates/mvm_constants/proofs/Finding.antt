-- What is found by a key is the lowest entry that means what is sought.
use Rattle.std.proofs.Common.{◌≡◌, ℕ, ◌+◌, suc, zero, Bool, true, false, List, [], ◌∷◌, Option, Some, None, Result, Ok, Err, refl, sym, ap, subst, ◌∙◌, arith, true≢false, if◌then◌else◌}
use Rattle.mvm_layout.specs.Pool.{entry}
use Rattle.mvm_layout.specs.declared.parts.Item.{Item}
use Rattle.mvm_listing.specs.Constants.{index_where}
use Rattle.mvm_constants.specs.declared.key.Key.{Key}
use Rattle.mvm_constants.specs.declared.key.Key.TheVariants as keys
use Rattle.mvm_constants.specs.declared.key.Lack.{Lack}
use Rattle.mvm_constants.specs.declared.sought.Sought.{Sought}
use Rattle.mvm_constants.specs.declared.sought.Sought.TheVariants as sought
use Rattle.mvm_constants.specs.declared.index.Index.{Index}
use Rattle.mvm_constants.specs.NameMap.{row}
use Rattle.mvm_constants.specs.Search.{means}
use Rattle.mvm_constants.specs.Index.{text_at, numbers_of, key_of, key_of_any, has, key_sought, with_number, found, Keyed, Waiting, is_settled, is_by}
use Rattle.mvm_constants.specs.Settling.{IsIndexOf}
use Rattle.mvm_constants.proofs.Keys.{key_same}
use Rattle.mvm_constants.proofs.Lowest.{Stands, lowest_is}
use Rattle.mvm_constants.proofs.Meaning.{means_is}

-- by the same numbers of texts the key is the same
key_by : (f g : List ℕ → Option ℕ) → ((text : List ℕ) → f text ≡ g text) → (x : Sought) → key_sought f x ≡ key_sought g x
key_by f g h (sought.Class name) = ap (λ (n : Option ℕ). with_number n (λ x. Some (keys.Class x))) (h name.now)
key_by f g h (sought.Str units) = ap (λ (n : Option ℕ). with_number n (λ x. Some (keys.Str x))) (h units.now)
key_by f g h (sought.Integer n) = refl
key_by f g h (sought.Long n) = refl
key_by f g h (sought.Pair name desc) = simp h
key_by f g h (sought.Member kind class name desc) = simp h

abbrev pub found_if : Option Key → Keyed → Option ℕ
found_if None keyed = None
found_if (Some key) keyed = found key keyed

none_passes : (test : Item → Bool) (n : ℕ) (xs : List Item) → ((item : Item) → test item ≡ false) → None ≡ index_where test n xs
none_passes test n [] h = refl
none_passes test n (x ∷ xs) h = none_passes test (n + 1) xs h ∙ ap (λ (b : Bool). if b then Some n else index_where test (n + 1) xs) (sym (h x))

never : (r : Result Key Lack) → has None r ≡ false
never (Ok key) = refl
never (Err lack) = refl

-- an entry that has a key, and is settled, is found by it
found_by_it : (keyed : Keyed) (waiting : Waiting) (key : Key) (r : Result Key Lack) (at : ℕ) → has (Some key) r ≡ true → is_settled keyed waiting r at ≡ true → is_by (found key keyed) at ≡ true
found_by_it keyed waiting key (Ok other) at h s = subst (λ (k : Key). is_by (found k keyed) at ≡ true) (sym (key_same key other h)) s
found_by_it keyed waiting key (Err lack) at h s = absurd (true≢false (sym h))

pub find_is : (pool : List Item) (index : Index) → IsIndexOf pool index → (x : Sought) → found_if (key_sought (λ text. row text index.texts) x) index.keyed ≡ index_where (means pool x) 1 pool
find_is pool index o x = by (key_sought (λ text. row text index.texts) x) (sym (key_by (λ text. row text index.texts) (text_at pool) o.texts x))
  where
    same : (key : Option Key) → key_sought (text_at pool) x ≡ key → (item : Item) → means pool x item ≡ has key (key_of pool index.numbers item)
    same key k item =
        means_is pool x item ∙ ap (λ (w : Option Key). has w (key_of pool (numbers_of pool) item)) k
        ∙ ap (λ (ns : List ℕ). has key (key_of pool ns item)) (sym o.numbers)

    stands_at : (key : Key) → key_sought (text_at pool) x ≡ Some key → (i : ℕ) (r : Option Item) → entry pool i ≡ r → has (Some key) (key_of_any pool index.numbers r) ≡ true → Stands (means pool x) 1 i pool
    stands_at key k zero r e h = absurd (true≢false (sym (ap (λ (w : Option Item). has (Some key) (key_of_any pool index.numbers w)) e ∙ h)))
    stands_at key k (suc place) None e h = absurd (true≢false (sym h))
    stands_at key k (suc place) (Some item) e h = record { place = place; item = item; counted = omega arith; there = e; passes = same (Some key) k item ∙ h }

    by : (key : Option Key) → key_sought (text_at pool) x ≡ key → found_if key index.keyed ≡ index_where (means pool x) 1 pool
    by None k = none_passes (means pool x) 1 pool (λ item. same None k item ∙ never (key_of pool index.numbers item))
    by (Some key) k =
        lowest_is (means pool x) (found key index.keyed) pool
        (λ i f. stands_at key k i (entry pool i) refl (o.sound key i f))
        (λ place item e h. found_by_it index.keyed index.waiting key (key_of pool index.numbers item) (suc place) (sym (same (Some key) k item) ∙ h) (o.complete (suc place) item e))
