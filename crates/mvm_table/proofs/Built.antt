-- The built-in classes: each is listed, and called by its name.
use Rattle.std.proofs.Common.{◌≡◌, ℕ, zero, suc, ◌+◌, Bool, true, false, cond, List, [], ◌∷◌, ◌++◌, length, Option, Some, None, refl, sym, ap, subst, ◌∙◌}
use Rattle.std.specs.Prelude.{map, slice_get, ◌||◌}
use Rattle.std.specs.List.{list_any}
use Rattle.std.specs.Option.{option_map}
use Rattle.std.specs.Str.{bytes_eq}
use Rattle.std.proofs.lemmas.Slice.Eq.{bytes_eq-Decides}
use Rattle.mvm_layout.specs.Pool.{class_name}
use Rattle.mvm_layout.specs.declared.parts.Item.{Item}
use Rattle.mvm_layout.specs.declared.parts.Item.TheVariants as item
use Rattle.mvm_layout.specs.declared.parts.Parts.{Parts}
use Rattle.mvm_set.specs.Names.{own_name}
use Rattle.mvm_builtin.specs.Table.{Line, Row, rows, named, is_part, of_part}
use Rattle.mvm_builtin.specs.Classes.{with_class, with_classes, with_items, with_code, with_members, run_items, own_pool, header_pool, superclass_pool, superinterfaces_pool, fields_pool, methods_pool, made, builtin}
use Rattle.mvm_builtin.specs.declared.parts.Part.TheVariants.{Superclass, Superinterface, Bytecode, Field, Method}
use Rattle.mvm_table.specs.Load.{is_in, row_name}

-- ---- the pool of a row begins with the name of its class

-- an entry of the one is that of the other
abbrev Keeps : List Item → List Item → Type 0
Keeps old new = (n : ℕ) (x : Item) → slice_get old n ≡ Some x → slice_get new n ≡ Some x

appended : (old more : List Item) → Keeps old (old ++ more)
appended [] more n x e = absurd cc
appended (y ∷ old) more zero x e = e
appended (y ∷ old) more (suc n) x e = appended old more n x e

classes_keep : (pool : List Item) (lines : List Line) → Keeps pool (with_classes pool lines)
classes_keep pool [] n x e = e
classes_keep pool (line ∷ lines) n x e =
    classes_keep (with_class pool line.name) lines n x (appended pool (item.Utf8 line.name ∷ item.Class (length pool + 1) ∷ []) n x e)

items_keep : (pool items : List Item) → Keeps pool (with_items pool items)
items_keep pool [] n x e = e
items_keep pool (one ∷ items) n x e = items_keep (pool ++ one ∷ []) items n x (appended pool (one ∷ []) n x e)

code_keeps : (pool : List Item) (lines : List Line) → Keeps pool (with_code pool lines)
unfolding with_code
code_keeps pool lines n x e = by (list_any (λ (line : Line). is_part Bytecode line.sort) lines)
  where
    by : (b : Bool) → slice_get (cond b (with_items pool run_items) pool) n ≡ Some x
    by true = items_keep pool run_items n x e
    by false = e

members_keep : (pool : List Item) (lines : List Line) → Keeps pool (with_members pool lines)
members_keep pool [] n x e = e
members_keep pool (line ∷ lines) n x e =
    members_keep (pool ++ item.Utf8 line.name ∷ item.Utf8 line.desc ∷ []) lines n x (appended pool (item.Utf8 line.name ∷ item.Utf8 line.desc ∷ []) n x e)

whole : (row : Row) → Keeps (own_pool row) (methods_pool row)
whole row n x e =
    members_keep (fields_pool row) (of_part Method row.lines) n x
    (members_keep (header_pool row) (of_part Field row.lines) n x
    (code_keeps (superinterfaces_pool row) row.lines n x
    (classes_keep (superclass_pool row) (of_part Superinterface row.lines) n x
    (classes_keep (own_pool row) (of_part Superclass row.lines) n x e))))

second : (pool : List Item) (text : List ℕ) → slice_get pool 0 ≡ Some (item.Utf8 text) → slice_get pool 1 ≡ Some (item.Class 1) → class_name pool 2 ≡ Some text
second [] text a b = absurd cc
second (x ∷ []) text a b = absurd cc
second (x ∷ y ∷ pool) text a b =
    let p : x ≡ item.Utf8 text = cc in
    let q : y ≡ item.Class 1 = cc in
    subst (λ (z : Item). class_name (z ∷ y ∷ pool) 2 ≡ Some text) (sym p) (subst (λ (z : Item). class_name (item.Utf8 text ∷ z ∷ pool) 2 ≡ Some text) (sym q) refl)

row_named : (row : Row) → own_name (made row) ≡ Some row.head.name
unfolding made
row_named row = second (methods_pool row) row.head.name (whole row 0 (item.Utf8 row.head.name) refl) (whole row 1 (item.Class 1) refl)

-- ---- a row that is found

eq_back : (xs ys : List ℕ) → bytes_eq xs ys ≡ true → bytes_eq ys xs ≡ true
eq_back xs ys e = let s : xs ≡ ys = (bytes_eq-Decides xs ys).0 e in (bytes_eq-Decides ys xs).1 (sym s)

row_is : (name : List ℕ) (all : List Row) (row : Row) → named name all ≡ Some row → (name ≡ row.head.name) × (is_in (map row_name all) name ≡ true)
row_is name [] row e = absurd cc
row_is name (other ∷ all) row e = by (bytes_eq name other.head.name) refl e (row_is name all row)
  where
    first : (b c : Bool) → b ≡ true → (b || c) ≡ true
    first b c e = rw e refl

    last : (b c : Bool) → c ≡ true → (b || c) ≡ true
    last true c e = refl
    last false c e = e

    by : (b : Bool) → bytes_eq name other.head.name ≡ b → cond b (Some other) (named name all) ≡ Some row → (named name all ≡ Some row → (name ≡ row.head.name) × (is_in (map row_name all) name ≡ true))
        → (name ≡ row.head.name) × ((bytes_eq other.head.name name || is_in (map row_name all) name) ≡ true)
    by true t e rest =
        let s : other ≡ row = cc in
        ((bytes_eq-Decides name other.head.name).0 t ∙ ap row_name s, first (bytes_eq other.head.name name) (is_in (map row_name all) name) (eq_back name other.head.name t))
    by false t e rest = let r = rest e in (r.0, last (bytes_eq other.head.name name) (is_in (map row_name all) name) r.1)

-- what is made of a row that is found
record IsMade (name : List ℕ) (file : Parts) : Type 0 where
  row : Row
  found : named name rows ≡ Some row
  is : made row ≡ file

is_made : (name : List ℕ) (file : Parts) → builtin name ≡ Some file → IsMade name file
unfolding builtin
is_made name file e = by (named name rows) refl e
  where
    by : (o : Option Row) → named name rows ≡ o → option_map made o ≡ Some file → IsMade name file
    by (Some row) f e = record { row = row; found = f; is = cc }
    by None f e = absurd cc

pub listed : (name : List ℕ) (file : Parts) → builtin name ≡ Some file → is_in (map row_name rows) name ≡ true
listed name file e = let m = is_made name file e in (row_is name rows m.row m.found).1

pub named_so : (name : List ℕ) (file : Parts) → builtin name ≡ Some file → own_name file ≡ Some name
named_so name file e =
    let m = is_made name file e in
    ap own_name (sym m.is) ∙ row_named m.row ∙ ap some (sym (row_is name rows m.row m.found).0)
  where
    some : List ℕ → Option (List ℕ)
    some text = Some text
