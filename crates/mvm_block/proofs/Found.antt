-- What a map by names has after a label was put into it.
use Rattle.std.proofs.Common.{◌≡◌, ℕ, Bool, true, false, cond, List, [], ◌∷◌, ◌++◌, Option, Some, None, refl, sym, ap, subst, ◌∙◌}
use Rattle.std.specs.Prelude.{map}
use Rattle.std.specs.BTreeMap.{BTreeMap, get_by, insert_entry, is_at}
use Rattle.std.specs.Cmp.Lexicographic.{slice_cmp}
use Rattle.std.specs.Map.{lookup}
use Rattle.std.specs.Ordering.{nat_cmp, is_eq, match_ordering}
use Rattle.std.specs.Str.{bytes_eq}
use Rattle.std.specs.declared.cmp.Ordering.{Ordering}
use Rattle.std.specs.declared.cmp.Ordering.TheVariants.{Less, Equal, Greater}
use Rattle.std.specs.declared.vec.Vec.{Vec}
use Rattle.std.proofs.lemmas.Map.Text.{is_eq-slice_cmp}
use Rattle.std.proofs.lemmas.Slice.Eq.{bytes_eq-Decides}
use Rattle.mvm_listing.specs.Blocks.{Labels, labelled}
use Rattle.mvm_block.specs.Labels.{row_of, found, HasPlaces}

abbrev Entries : Type 0 → Type 0
Entries Z = List (Vec ℕ Z × ℕ)

abbrev in_rows : {Z : Type 0} → List ℕ → Entries Z → Option ℕ
in_rows name es = lookup (λ other. bytes_eq name other) (map row_of es)

found_in : {Z : Type 0} (name : List ℕ) (es : Entries Z) → lookup (is_at (λ (k : Vec ℕ Z). slice_cmp nat_cmp name k.items)) es ≡ in_rows name es
found_in {Z} name [] = refl
found_in {Z} name (e ∷ es) =
    ap (λ (b : Bool). cond b (Some e.1) (lookup (is_at (λ (k : Vec ℕ Z). slice_cmp nat_cmp name k.items)) es)) (is_eq-slice_cmp name e.0.items)
    ∙ ap (λ (r : Option ℕ). cond (bytes_eq name e.0.items) (Some e.1) r) (found_in name es)

-- the place of a name in the map
pub get_is : {Z : Type 0} (places : BTreeMap (Vec ℕ Z) ℕ) (name : List ℕ) → get_by (λ (k : Vec ℕ Z). slice_cmp nat_cmp name k.items) places ≡ found places name
get_is {Z} places name = found_in name places.entries

abbrev compare : {Z : Type 0} → Vec ℕ Z → Vec ℕ Z → Ordering
compare x y = slice_cmp nat_cmp x.items y.items

no_equal : (xs ys : List ℕ) → slice_cmp nat_cmp xs ys ≡ Greater → bytes_eq xs ys ≡ false
no_equal xs ys e = sym (is_eq-slice_cmp xs ys) ∙ ap is_eq e

are_equal : (xs ys : List ℕ) → slice_cmp nat_cmp xs ys ≡ Equal → xs ≡ ys
are_equal xs ys e = (bytes_eq-Decides xs ys).0 (sym (is_eq-slice_cmp xs ys) ∙ ap is_eq e)

back : (xs ys : List ℕ) → bytes_eq xs ys ≡ false → bytes_eq ys xs ≡ false
back xs ys e = by (bytes_eq ys xs) refl
  where
    by : (b : Bool) → bytes_eq ys xs ≡ b → b ≡ false
    by true h = let s : ys ≡ xs = (bytes_eq-Decides ys xs).0 h in absurd (let k = sym ((bytes_eq-Decides xs ys).1 (sym s)) ∙ e in cc)
    by false h = refl

either_way : (xs ys : List ℕ) → bytes_eq xs ys ≡ bytes_eq ys xs
either_way xs ys = by (bytes_eq xs ys) refl
  where
    by : (b : Bool) → bytes_eq xs ys ≡ b → b ≡ bytes_eq ys xs
    by true h = sym ((bytes_eq-Decides ys xs).1 (sym ((bytes_eq-Decides xs ys).0 h)))
    by false h = sym (back xs ys h)

two : (a b : Bool) (v w : ℕ) (r : Option ℕ) → (b ≡ true → a ≡ false) → cond b (Some w) (cond a (Some v) r) ≡ cond a (Some v) (cond b (Some w) r)
two true true v w r h = absurd (let k = h refl in cc)
two true false v w r h = refl
two false b v w r h = refl

one : (b : Bool) (v w : ℕ) (r : Option ℕ) → cond b (Some v) r ≡ cond b (Some v) (cond b (Some w) r)
one true v w r = refl
one false v w r = refl

inserted : {Z : Type 0} (es : Entries Z) (key : Vec ℕ Z) (at : ℕ) (other : List ℕ) → in_rows other (insert_entry compare es key at) ≡ cond (bytes_eq other key.items) (Some at) (in_rows other es)
inserted {Z} [] key at other = refl
inserted {Z} (e ∷ es) key at other = by (compare key e.0) refl (inserted es key at other)
  where
    by : (r : Ordering) → compare key e.0 ≡ r
        → in_rows other (insert_entry compare es key at) ≡ cond (bytes_eq other key.items) (Some at) (in_rows other es)
        → in_rows other (match_ordering r ((key, at) ∷ e ∷ es) ((e.0, at) ∷ es) (e ∷ insert_entry compare es key at))
        ≡ cond (bytes_eq other key.items) (Some at) (in_rows other (e ∷ es))
    by Less c i = refl
    by Equal c i =
        let s : key.items ≡ e.0.items = are_equal key.items e.0.items c in
        one (bytes_eq other e.0.items) at e.1 (in_rows other es)
        ∙ ap (λ (n : List ℕ). cond (bytes_eq other n) (Some at) (cond (bytes_eq other e.0.items) (Some e.1) (in_rows other es))) (sym s)
    by Greater c i =
        ap (λ (r : Option ℕ). cond (bytes_eq other e.0.items) (Some e.1) r) i
        ∙ two (bytes_eq other key.items) (bytes_eq other e.0.items) at e.1 (in_rows other es)
        (λ h. ap (λ (n : List ℕ). bytes_eq n key.items) ((bytes_eq-Decides other e.0.items).0 h) ∙ back key.items e.0.items (no_equal key.items e.0.items c))

-- ---- the list of the labels, with one more

no_front : (b : Bool) (v : ℕ) (r : Option ℕ) → cond b (Some v) r ≡ None → b ≡ false
no_front true v r e = absurd cc
no_front false v r e = refl

no_rest : (b : Bool) (v : ℕ) (r : Option ℕ) → cond b (Some v) r ≡ None → r ≡ None
no_rest true v r e = absurd cc
no_rest false v r e = e

labelled_more : (given : Labels) (name : List ℕ) (at : ℕ) (other : List ℕ) → labelled given name ≡ None
    → labelled (given ++ (name, at) ∷ []) other ≡ cond (bytes_eq other name) (Some at) (labelled given other)
labelled_more [] name at other h = ap (λ (b : Bool). cond b (Some at) None) (either_way name other)
labelled_more (x ∷ given) name at other h =
    ap (λ (r : Option ℕ). cond (bytes_eq x.0 other) (Some x.1) r) (labelled_more given name at other (no_rest (bytes_eq x.0 name) x.1 _ h))
    ∙ two (bytes_eq other name) (bytes_eq x.0 other) at x.1 (labelled given other)
    (λ e. subst (λ (n : List ℕ). bytes_eq n name ≡ false) ((bytes_eq-Decides x.0 other).0 e) (no_front (bytes_eq x.0 name) x.1 _ h))

-- the map and the list with one more label
pub more_places : {Z : Type 0} (given : Labels) (old new : BTreeMap (Vec ℕ Z) ℕ) (key : Vec ℕ Z) (name : List ℕ) (at : ℕ) → HasPlaces given old → labelled given name ≡ None → key.items ≡ name
    → new.entries ≡ insert_entry compare old.entries key at → HasPlaces (given ++ (name, at) ∷ []) new
more_places {Z} given old new key name at has none k e = λ other.
    ap (λ (es : Entries Z). in_rows other es) e ∙ inserted old.entries key at other
    ∙ ap (λ (n : List ℕ). cond (bytes_eq other n) (Some at) (in_rows other old.entries)) k
    ∙ ap (λ (r : Option ℕ). cond (bytes_eq other name) (Some at) r) (has other)
    ∙ sym (labelled_more given name at other none)
