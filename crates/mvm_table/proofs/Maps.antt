-- What a map by names has after an entry was put into it.
use Rattle.std.proofs.Common.{◌≡◌, ℕ, Bool, true, false, cond, List, [], ◌∷◌, Option, Some, None, refl, sym, ap, ◌∙◌}
use Rattle.std.specs.Prelude.{map}
use Rattle.std.specs.BTreeMap.{BTreeMap, get_by, insert_entry, is_at}
use Rattle.std.specs.Cmp.Lexicographic.{slice_cmp}
use Rattle.std.specs.Map.{lookup, remove_entry}
use Rattle.std.specs.Ordering.{nat_cmp, is_eq, match_ordering}
use Rattle.std.specs.Str.{bytes_eq}
use Rattle.std.specs.declared.cmp.Ordering.{Ordering}
use Rattle.std.specs.declared.cmp.Ordering.TheVariants.{Less, Equal, Greater}
use Rattle.std.specs.declared.vec.Vec.{Vec}
use Rattle.std.proofs.lemmas.Map.Text.{is_eq-slice_cmp}
use Rattle.std.proofs.lemmas.Slice.Eq.{bytes_eq-Decides}
use Rattle.mvm_table.specs.NameMap.{row, row_of, rows_of, without, Puts}

found_in : {X Z : Type 0} (name : List ℕ) (es : List (Vec ℕ Z × X)) → lookup (is_at (λ (k : Vec ℕ Z). slice_cmp nat_cmp name k.items)) es ≡ row name (map row_of es)
found_in {X} {Z} name [] = refl
found_in {X} {Z} name (e ∷ es) =
    ap (λ (b : Bool). cond b (Some e.1) (lookup (is_at (λ (k : Vec ℕ Z). slice_cmp nat_cmp name k.items)) es)) (is_eq-slice_cmp name e.0.items)
    ∙ ap (λ (r : Option X). cond (bytes_eq name e.0.items) (Some e.1) r) (found_in name es)

-- the value of a name in the map
pub get_is : {X Z : Type 0} (rows : BTreeMap (Vec ℕ Z) X) (name : List ℕ) → get_by (λ (k : Vec ℕ Z). slice_cmp nat_cmp name k.items) rows ≡ row name (rows_of rows)
get_is {X} {Z} rows name = found_in name rows.entries

abbrev compare : {Z : Type 0} → Vec ℕ Z → Vec ℕ Z → Ordering
compare x y = slice_cmp nat_cmp x.items y.items

no_equal : (xs ys : List ℕ) → slice_cmp nat_cmp xs ys ≡ Greater → bytes_eq xs ys ≡ false
no_equal xs ys e = sym (is_eq-slice_cmp xs ys) ∙ ap is_eq e

are_equal : (xs ys : List ℕ) → slice_cmp nat_cmp xs ys ≡ Equal → xs ≡ ys
are_equal xs ys e = (bytes_eq-Decides xs ys).0 (sym (is_eq-slice_cmp xs ys) ∙ ap is_eq e)

back : (xs ys : List ℕ) → bytes_eq xs ys ≡ false → bytes_eq ys xs ≡ false
back xs ys e = by (bytes_eq ys xs) refl
  where
    by : (b : Bool) → bytes_eq ys xs ≡ b → b ≡ false
    by true h = let s : ys ≡ xs = (bytes_eq-Decides ys xs).0 h in absurd (let k = sym ((bytes_eq-Decides xs ys).1 (sym s)) ∙ e in cc)
    by false h = refl

two : {X : Type 0} (a b : Bool) (v w : X) (r : Option X) → (b ≡ true → a ≡ false) → cond b (Some w) (cond a (Some v) r) ≡ cond a (Some v) (cond b (Some w) r)
two true true v w r h = absurd (let k = h refl in cc)
two true false v w r h = refl
two false b v w r h = refl

one : {X : Type 0} (b : Bool) (v w : X) (r : Option X) → cond b (Some v) r ≡ cond b (Some v) (cond b (Some w) r)
one true v w r = refl
one false v w r = refl

inserted : {X Z : Type 0} (es : List (Vec ℕ Z × X)) (key : Vec ℕ Z) (value : X) (other : List ℕ) → row other (map row_of (insert_entry compare es key value)) ≡ cond (bytes_eq other key.items) (Some value) (row other (map row_of es))
inserted {X} {Z} [] key value other = refl
inserted {X} {Z} (e ∷ es) key value other = by (compare key e.0) refl (inserted es key value other)
  where
    by : (r : Ordering) → compare key e.0 ≡ r
        → row other (map row_of (insert_entry compare es key value)) ≡ cond (bytes_eq other key.items) (Some value) (row other (map row_of es))
        → row other (map row_of (match_ordering r ((key, value) ∷ e ∷ es) ((e.0, value) ∷ es) (e ∷ insert_entry compare es key value)))
        ≡ cond (bytes_eq other key.items) (Some value) (row other (map row_of (e ∷ es)))
    by Less c i = refl
    by Equal c i =
        let s : key.items ≡ e.0.items = are_equal key.items e.0.items c in
        one (bytes_eq other e.0.items) value e.1 (row other (map row_of es))
        ∙ ap (λ (n : List ℕ). cond (bytes_eq other n) (Some value) (cond (bytes_eq other e.0.items) (Some e.1) (row other (map row_of es)))) (sym s)
    by Greater c i =
        ap (λ (r : Option X). cond (bytes_eq other e.0.items) (Some e.1) r) i
        ∙ two (bytes_eq other key.items) (bytes_eq other e.0.items) value e.1 (row other (map row_of es))
        (λ h. ap (λ (n : List ℕ). bytes_eq n key.items) ((bytes_eq-Decides other e.0.items).0 h) ∙ back key.items e.0.items (no_equal key.items e.0.items c))

-- the map after an entry was put into it
pub put_is : {X Z : Type 0} (old new : BTreeMap (Vec ℕ Z) X) (key : Vec ℕ Z) (name : List ℕ) (value : X) → key.items ≡ name → new.entries ≡ insert_entry compare old.entries key value
    → Puts (rows_of old) name value (rows_of new)
put_is {X} {Z} old new key name value k e = λ other.
    ap (λ (es : List (Vec ℕ Z × X)). row other (map row_of es)) e ∙ inserted old.entries key value other
    ∙ ap (λ (n : List ℕ). cond (bytes_eq other n) (Some value) (row other (map row_of old.entries))) k

-- ---- an entry taken out

others : {X Z : Type 0} (name : List ℕ) (es : List (Vec ℕ Z × X)) → map row_of (remove_entry (is_at (λ (k : Vec ℕ Z). slice_cmp nat_cmp name k.items)) es) ≡ without name (map row_of es)
others {X} {Z} name [] = refl
others {X} {Z} name (e ∷ es) = by (is_eq (slice_cmp nat_cmp name e.0.items)) (bytes_eq name e.0.items) (is_eq-slice_cmp name e.0.items) (others name es)
  where
    by : (a b : Bool) → a ≡ b → map row_of (remove_entry (is_at (λ (k : Vec ℕ Z). slice_cmp nat_cmp name k.items)) es) ≡ without name (map row_of es) → map row_of (cond a es (e ∷ remove_entry (is_at (λ (k : Vec ℕ Z). slice_cmp nat_cmp name k.items)) es)) ≡ cond b (map row_of es) (row_of e ∷ without name (map row_of es))
    by true true h rest = refl
    by false false h rest = ap (λ (r : List (List ℕ × X)). row_of e ∷ r) rest
    by true false h rest = absurd cc
    by false true h rest = absurd cc

-- the map after the entry of a name was taken out of it
pub take_out_is : {X Z : Type 0} (old new : BTreeMap (Vec ℕ Z) X) (name : List ℕ) → new.entries ≡ remove_entry (is_at (λ (k : Vec ℕ Z). slice_cmp nat_cmp name k.items)) old.entries
    → rows_of new ≡ without name (rows_of old)
take_out_is {X} {Z} old new name e = ap (λ (es : List (Vec ℕ Z × X)). map row_of es) e ∙ others name old.entries

self_eq : (name : List ℕ) → bytes_eq name name ≡ true
self_eq name = (bytes_eq-Decides name name).1 refl

taken_back : {X Z : Type 0} (es : List (Vec ℕ Z × X)) (key : Vec ℕ Z) (value : X) → row key.items (map row_of es) ≡ None → without key.items (map row_of (insert_entry compare es key value)) ≡ map row_of es
taken_back {X} {Z} [] key value n = ap (λ (b : Bool). cond b nothing ((key.items, value) ∷ [])) (self_eq key.items)
  where
    nothing : List (List ℕ × X)
    nothing = []
taken_back {X} {Z} (e ∷ es) key value n = by (compare key e.0) refl (taken_back es key value)
  where
    off : (b : Bool) → cond b (Some e.1) (row key.items (map row_of es)) ≡ None → b ≡ false
    off true h = absurd cc
    off false h = refl

    apart : bytes_eq key.items e.0.items ≡ false
    apart = off (bytes_eq key.items e.0.items) n

    later : row key.items (map row_of es) ≡ None
    later = sym (ap (λ (b : Bool). cond b (Some e.1) (row key.items (map row_of es))) apart) ∙ n

    by : (r : Ordering) → compare key e.0 ≡ r → (row key.items (map row_of es) ≡ None → without key.items (map row_of (insert_entry compare es key value)) ≡ map row_of es) → without key.items (map row_of (match_ordering r ((key, value) ∷ e ∷ es) ((e.0, value) ∷ es) (e ∷ insert_entry compare es key value))) ≡ map row_of (e ∷ es)
    by Less c rest = ap (λ (b : Bool). cond b (map row_of (e ∷ es)) ((key.items, value) ∷ without key.items (map row_of (e ∷ es)))) (self_eq key.items)
    by Equal c rest = absurd (let s : key.items ≡ e.0.items = are_equal key.items e.0.items c in let k = sym ((bytes_eq-Decides key.items e.0.items).1 s) ∙ apart in cc)
    by Greater c rest =
        ap (λ (b : Bool). cond b (map row_of (insert_entry compare es key value)) (row_of e ∷ without key.items (map row_of (insert_entry compare es key value)))) apart
        ∙ ap (λ (r : List (List ℕ × X)). row_of e ∷ r) (rest later)

-- a new name that was put into a map and taken out
pub back_is : {X Z : Type 0} (old new : BTreeMap (Vec ℕ Z) X) (key : Vec ℕ Z) (name : List ℕ) (value : X) → key.items ≡ name → new.entries ≡ insert_entry compare old.entries key value
    → row name (rows_of old) ≡ None → without name (rows_of new) ≡ rows_of old
back_is {X} {Z} old new key name value k e n =
    ap (λ (m : List ℕ). without m (rows_of new)) (sym k)
    ∙ ap (λ (es : List (Vec ℕ Z × X)). without key.items (map row_of es)) e
    ∙ taken_back old.entries key value (ap (λ (m : List ℕ). row m (rows_of old)) k ∙ n)
