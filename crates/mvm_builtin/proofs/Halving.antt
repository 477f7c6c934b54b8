-- What halving an index finds.
use Rattle.std.proofs.Common.{◌≡◌, ℕ, zero, suc, ◌+◌, ◌<◌, ◌≤◌, false, List, [], ◌∷◌, length, get_or, drop, refl, sym, ap, ◌∙◌, subst, inl, inr, arith, drop-cons}
use Rattle.std.specs.Cmp.Lexicographic.{slice_cmp}
use Rattle.std.specs.List.{HoldsAt}
use Rattle.std.specs.List.Sorted.{IsSortedBy, IsPartitionPoint, IsNonDecreasingBy}
use Rattle.std.specs.Ordering.{nat_cmp, is_lt, is_eq, ordering_index}
use Rattle.std.specs.declared.cmp.Ordering.TheVariants.{Less, Equal, Greater}
use Rattle.std.specs.Borrow.{Bor}
use Rattle.std.proofs.Math.ListN.{get_or-map as at_map}
use Rattle.std.proofs.lemmas.List.{get_or-map, length-map, drop_all}
use Rattle.std.proofs.lemmas.Bool.{cases_lt}
use Rattle.std.proofs.lemmas.Cmp.{tied_itself, nat_list_cmp_total}
use Rattle.std.proofs.lemmas.List.Sorted.{searchable_from_sorted}
use Rattle.std.proofs.lemmas.Map.Text.{is_eq-slice_cmp}
use Rattle.std.proofs.lemmas.Slice.Eq.{bytes_eq-Decides}
use Rattle.mvm_builtin.specs.Index.{Entry, is_below, entry_of, entries_of, IsEntryOf}

-- where one text is at its end and the other is not
pub longer : (a b : List ℕ) (i : ℕ) → i < length a → length b ≤ i → slice_cmp nat_cmp (drop i a) (drop i b) ≡ Greater
longer a b i h k = rw (drop-cons a i 0, drop_all i b k) refl

pub shorter : (a b : List ℕ) (i : ℕ) → length a ≤ i → i < length b → slice_cmp nat_cmp (drop i a) (drop i b) ≡ Less
shorter a b i h k = rw (drop_all i a h, drop-cons b i 0) refl

equal_texts : (a b : List ℕ) → slice_cmp nat_cmp a b ≡ Equal → a ≡ b
equal_texts a b e = (bytes_eq-Decides a b).0 (sym (is_eq-slice_cmp a b) ∙ ap is_eq e)

abbrev Raw : Type 0
Raw = Bor (List ℕ) × ℕ

abbrev some_raw : Raw
some_raw = (record { ref_ptr = (0, 0); now = [] }, 0)

-- an entry with this name was met
pub present : (index : List Raw) (name : List ℕ) (at : ℕ) (e : Raw) → at < length index → HoldsAt (λ y. slice_cmp nat_cmp y.0.now name ≡ Equal) index at → IsEntryOf (entries_of index) name (get_or index at e).1
present index name at e h equal = record {
  at = at;
  within = omega (arith, length-map index entry_of);
  holds = λ d.
      let is : get_or (entries_of index) at d ≡ entry_of (get_or index at e) = get_or-map entry_of index at e d h in
      (ap (λ (x : Entry). x.0) is ∙ equal_texts (get_or index at e).0.now name (equal e), ap (λ (x : Entry). x.1) is);
}

-- the entries before a place are below the name, and those from it on above: so none has the name
pub absent : (index : List Raw) (name : List ℕ) (i : ℕ)
    → IsPartitionPoint (λ y. slice_cmp nat_cmp y.0.now name ≡ Less) (λ y. slice_cmp nat_cmp y.0.now name ≡ Greater) index i
    → (k : ℕ) (d : Entry) → k < length (entries_of index) → (get_or (entries_of index) k d).0 ≡ name → ⊥
absent index name i parted k d h e =
    let within : k < length index = omega (arith, length-map index entry_of) in
    let is : get_or (entries_of index) k d ≡ entry_of (get_or index k some_raw) = get_or-map entry_of index k some_raw d within in
    let same : (get_or index k some_raw).0.now ≡ name = sym (ap (λ (x : Entry). x.0) is) ∙ e in
    let tied : slice_cmp nat_cmp (get_or index k some_raw).0.now name ≡ Equal = subst (λ (n : List ℕ). slice_cmp nat_cmp n name ≡ Equal) (sym same) (tied_itself nat_list_cmp_total name) in
    elim (cases_lt k i) [
      | inl before ↦ (let less : slice_cmp nat_cmp (get_or index k some_raw).0.now name ≡ Less = parted.0 k some_raw (omega arith) before in cc)
      | inr behind ↦ (let greater : slice_cmp nat_cmp (get_or index k some_raw).0.now name ≡ Greater = parted.1 k some_raw behind within in cc)
    ]

sorted_raw : (index : List Raw) → IsSortedBy is_below (entries_of index) → IsSortedBy (λ a b. is_lt (slice_cmp nat_cmp a.0.now b.0.now)) index
sorted_raw index sorted = λ k d low h.
    let within : k + 1 < length (entries_of index) = omega (arith, length-map index entry_of) in
    subst (λ (x : Entry). is_below x (entry_of (get_or index k d)) ≡ false) (at_map entry_of index (k + 1) d)
    (subst (λ (x : Entry). is_below (get_or (entries_of index) (k + 1) (entry_of d)) x ≡ false) (at_map entry_of index k d) (sorted k (entry_of d) low within))

-- how the entries stand to a name rises along a sorted index
pub rises : (index : List Raw) (name : List ℕ) → IsSortedBy is_below (entries_of index) → IsNonDecreasingBy (λ y. ordering_index (slice_cmp nat_cmp y.0.now name)) index
rises index name sorted = searchable_from_sorted nat_list_cmp_total (λ (y : Raw). y.0.now) index name (sorted_raw index sorted)

-- ---- an index that is sorted, by computation

abbrev pub Rising : List Entry → Type 0
Rising [] = Unit {0}
Rising (one ∷ []) = Unit {0}
Rising (one ∷ other ∷ entries) = (is_below other one ≡ false) × Rising (other ∷ entries)

pub sorted_so : (entries : List Entry) → Rising entries → IsSortedBy is_below entries
sorted_so [] r k d low h = absurd (omega arith)
sorted_so (one ∷ []) r k d low h = absurd (omega arith)
sorted_so (one ∷ other ∷ entries) r zero d low h = r.0
sorted_so (one ∷ other ∷ entries) r (suc k) d low h =
    let e : suc (k + 1) ≡ suc k + 1 = omega arith in
    subst (λ (n : ℕ). is_below (get_or (one ∷ other ∷ entries) n d) (get_or (other ∷ entries) k d) ≡ false) e (sorted_so (other ∷ entries) r.1 k d (omega arith) (omega arith))
