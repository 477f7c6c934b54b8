-- Each step of a load: what stands, stands, and there is less to do.
use Rattle.std.proofs.Common.{◌≡◌, ℕ, zero, suc, ◌+◌, ◌-◌, ◌<◌, Bool, true, false, cond, List, [], ◌∷◌, ◌++◌, length, Option, Some, None, Result, Ok, Err, refl, sym, ap, subst, ◌∙◌, arith}
use Rattle.std.specs.Prelude.{slice_get, is_some, ◌||◌}
use Rattle.std.specs.Option.{option_map}
use Rattle.std.specs.Str.{bytes_eq}
use Rattle.std.proofs.lemmas.Option.{slice_get_within}
use Rattle.std.proofs.lemmas.Slice.Eq.{bytes_eq-Decides}
use Rattle.mvm_base.specs.Answers.{◌>>=◌}
use Rattle.mvm_layout.specs.Pool.{class_name}
use Rattle.mvm_layout.specs.declared.parts.Parts.{Parts}
use Rattle.mvm_set.specs.Over.{class_over}
use Rattle.mvm_set.specs.declared.class.Lineage.{Lineage}
use Rattle.mvm_table.specs.Files.{File}
use Rattle.mvm_table.specs.Load.{is_in, may_stand, found, known}
use Rattle.mvm_table.specs.NameMap.{Rows, row, Puts}
use Rattle.mvm_table.specs.Work.{unpassed}
use Rattle.mvm_table.specs.Begun.{on_path, super_at, is_interface_place, left_of, listed, taken, taken_at, begun_of, names_of, Stands, AllStand, IsRooted, is_begun, is_met, IsLoading, steps_left, all_left, steps_of, weight, to_do}
use Rattle.mvm_table.specs.declared.begun.Begun.{Begun}
use Rattle.mvm_table.specs.declared.fault.LoadFault.{LoadFault}
use Rattle.mvm_table.specs.declared.fault.LoadFault.TheVariants.{Circular}
use Rattle.mvm_table.proofs.Known.{known_name}
use Rattle.mvm_table.proofs.Weights.{fewer, one_fewer, is_in-longer}
use Rattle.mvm_table.proofs.Lineages.{lost, circular}
use Rattle.mvm_table.proofs.Supers.{Given, taken_left, ended_left}
use Rattle.mvm_table.proofs.Standing.{last_stands, without_last, with_last, with_next, new_stands, names_last, last_fails, super_fault, serves, alone}

-- ---- names and rows

pub eq_back : (xs ys : List ℕ) → bytes_eq xs ys ≡ bytes_eq ys xs
eq_back xs ys = by (bytes_eq xs ys) (bytes_eq ys xs) refl refl
  where
    by : (a b : Bool) → bytes_eq xs ys ≡ a → bytes_eq ys xs ≡ b → a ≡ b
    by true true e f = refl
    by false false e f = refl
    by true false e f = let s : xs ≡ ys = (bytes_eq-Decides xs ys).0 e in absurd (let k = sym ((bytes_eq-Decides ys xs).1 (sym s)) ∙ f in cc)
    by false true e f = let s : ys ≡ xs = (bytes_eq-Decides ys xs).0 f in absurd (let k = sym ((bytes_eq-Decides xs ys).1 (sym s)) ∙ e in cc)

all_left-last : (xs : List Begun) (top : Begun) → all_left (xs ++ top ∷ []) ≡ all_left xs + steps_left top
all_left-last [] top = omega arith
all_left-last (x ∷ xs) top = let i = all_left-last xs top in omega (arith, i)

rooted_less : (root : List ℕ) (xs : List Begun) (top : Begun) → IsRooted root (xs ++ top ∷ []) → IsRooted root xs
rooted_less root [] top r = tt
rooted_less root (x ∷ xs) top r = r

rooted_same : (root : List ℕ) (xs : List Begun) (top other : Begun) → top.name ≡ other.name → IsRooted root (xs ++ top ∷ []) → IsRooted root (xs ++ other ∷ [])
rooted_same root [] top other n r = sym n ∙ r
rooted_same root (x ∷ xs) top other n r = r

rooted_more : (root : List ℕ) (xs : List Begun) (top new : Begun) → IsRooted root (xs ++ top ∷ []) → IsRooted root ((xs ++ top ∷ []) ++ new ∷ [])
rooted_more root [] top new r = r
rooted_more root (x ∷ xs) top new r = r

-- ---- a class that is finished

module _ (set : ℕ) (files : List File) (root : List ℕ) (xs : List Begun) (top : Begun) (met : Rows (Option Lineage)) (l : IsLoading set files root (xs ++ top ∷ []) met) where
  abbrev top_path : List (List ℕ)
  top_path = names_of xs ++ top.name ∷ []

  abbrev finished : Lineage
  finished = class_over set top.file (listed top.above) top.across

  top_is : super_at top.file top.next ≡ None → on_path set files (names_of xs) top.name ≡ Ok finished
  top_is s = let t = last_stands set files [] xs top l.stand in t.is_left ∙ ended_left set (on_path set files top_path) top s

  pub root_is : xs ≡ [] → super_at top.file top.next ≡ None → on_path set files [] root ≡ Ok finished
  root_is e s =
      let r : top.name ≡ root = subst (λ (ys : List Begun). IsRooted root (ys ++ top ∷ [])) e l.rooted in
      ap (on_path set files []) (sym r) ∙ ap (λ (ys : List Begun). on_path set files (names_of ys) top.name) (sym e) ∙ top_is s

  pub is_closed : (new : Rows (Option Lineage)) → super_at top.file top.next ≡ None → Puts met top.name (Some finished) new
      → IsLoading set files root xs new × (to_do files xs new < to_do files (xs ++ top ∷ []) met)
  unfolding to_do
  is_closed new s p =
      (record { stand = without_last set files [] xs top l.stand; rooted = rooted_less root xs top l.rooted; path = record { each = on }; loaded = record { each = done } }, less)
    where
      off : is_in (names_of xs) top.name ≡ false
      off = let t = last_stands set files [] xs top l.stand in t.is_off

      on_other : (name : List ℕ) → bytes_eq name top.name ≡ false → is_in (names_of (xs ++ top ∷ [])) name ≡ is_in (names_of xs) name
      on_other name e =
          ap (λ (ns : List (List ℕ)). is_in ns name) (names_last set files xs top) ∙ is_in-longer (names_of xs) top.name name
          ∙ ap (λ (b : Bool). is_in (names_of xs) name || (b || false)) (eq_back top.name name ∙ e) ∙ no_more (is_in (names_of xs) name)
        where
          no_more : (b : Bool) → (b || (false || false)) ≡ b
          no_more true = refl
          no_more false = refl

      on : (name : List ℕ) → is_in (names_of xs) name ≡ is_begun (row name new)
      on name = by (bytes_eq name top.name) refl
        where
          by : (b : Bool) → bytes_eq name top.name ≡ b → is_in (names_of xs) name ≡ is_begun (row name new)
          by true e =
              let same : name ≡ top.name = (bytes_eq-Decides name top.name).0 e in
              ap (is_in (names_of xs)) same ∙ off
              ∙ sym (ap is_begun (p name) ∙ ap (λ (b : Bool). is_begun (cond b (Some (Some finished)) (row name met))) e)
          by false e =
              sym (on_other name e) ∙ l.path.each name
              ∙ sym (ap is_begun (p name) ∙ ap (λ (b : Bool). is_begun (cond b (Some (Some finished)) (row name met))) e)

      done : (name : List ℕ) (class : Lineage) → row name new ≡ Some (Some class) → on_path set files [] name ≡ Ok class
      done name class r = by (bytes_eq name top.name) refl
        where
          by : (b : Bool) → bytes_eq name top.name ≡ b → on_path set files [] name ≡ Ok class
          by true e =
              let same : name ≡ top.name = (bytes_eq-Decides name top.name).0 e in
              let q : Some (Some finished) ≡ Some (Some class) = sym (p name ∙ ap (λ (b : Bool). cond b (Some (Some finished)) (row name met)) e) ∙ r in
              let c : finished ≡ class = cc in
              ap (on_path set files []) same ∙ alone set files (names_of xs) top.name finished (top_is s) ∙ ap ok c
            where
              ok : Lineage → Result Lineage LoadFault
              ok k = Ok k
          by false e = l.loaded.each name class (sym (p name ∙ ap (λ (b : Bool). cond b (Some (Some finished)) (row name met)) e) ∙ r)

      met_before : (name : List ℕ) → is_met met name ≡ true → is_met new name ≡ true
      met_before name m = by (bytes_eq name top.name) refl
        where
          by : (b : Bool) → bytes_eq name top.name ≡ b → is_met new name ≡ true
          by true e = ap is_some (p name) ∙ ap (λ (b : Bool). is_some (cond b (Some (Some finished)) (row name met))) e
          by false e = ap is_some (p name) ∙ ap (λ (b : Bool). is_some (cond b (Some (Some finished)) (row name met))) e ∙ m

      less : unpassed (weight files) (is_met new) (known files) + all_left xs < unpassed (weight files) (is_met met) (known files) + all_left (xs ++ top ∷ [])
      less =
          let f = fewer (weight files) (is_met met) (is_met new) met_before (known files) in
          let a = all_left-last xs top in
          omega (arith, f, a)

  -- ---- one super more

  same_name : (class : Option Lineage) → top.name ≡ (taken top class).name
  unfolding taken
  same_name class = by top.next
    where
      by : (n : ℕ) → top.name ≡ (taken_at n top class).name
      by zero = refl
      by (suc at) = refl

  same_file : (class : Option Lineage) → top.file ≡ (taken top class).file
  unfolding taken
  same_file class = by top.next
    where
      by : (n : ℕ) → top.file ≡ (taken_at n top class).file
      by zero = refl
      by (suc at) = refl

  more_done : (class : Option Lineage) (found : Option (List ℕ)) → super_at top.file top.next ≡ Some found → steps_left (taken top class) < steps_left top
  unfolding taken
  more_done class found s = by top.next s
    where
      within : (at : ℕ) → option_map (class_name top.file.pool) (slice_get top.file.interfaces at) ≡ Some found → at < length top.file.interfaces
      within at e = among (slice_get top.file.interfaces at) refl e
        where
          among : (o : Option ℕ) → slice_get top.file.interfaces at ≡ o → option_map (class_name top.file.pool) o ≡ Some found → at < length top.file.interfaces
          among (Some index) i e = slice_get_within top.file.interfaces at index i
          among None i e = absurd cc

      by : (n : ℕ) → super_at top.file n ≡ Some found → steps_left (taken_at n top class) < (length top.file.interfaces + 1 - n) + 1
      by zero s = omega arith
      by (suc at) s = let w = within at s in omega (arith, w)

  names_same : (class : Option Lineage) → names_of (xs ++ top ∷ []) ≡ names_of (xs ++ taken top class ∷ [])
  names_same class = names_last set files xs top ∙ ap (λ (n : List ℕ). names_of xs ++ n ∷ []) (same_name class) ∙ sym (names_last set files xs (taken top class))

  pub is_taken : (found_name : Option (List ℕ)) (class : Option Lineage) → super_at top.file top.next ≡ Some found_name
      → Given (on_path set files top_path) (is_interface_place top.next) top.name found_name class
      → IsLoading set files root (xs ++ taken top class ∷ []) met × (to_do files (xs ++ taken top class ∷ []) met < to_do files (xs ++ top ∷ []) met)
  unfolding to_do
  is_taken found_name class s g = (
    record {
      stand = with_last set files [] xs top (taken top class) l.stand (same_name class) stands;
      rooted = rooted_same root xs top (taken top class) (same_name class) l.rooted;
      path = record { each = λ name. ap (λ (ns : List (List ℕ)). is_in ns name) (sym (names_same class)) ∙ l.path.each name };
      loaded = l.loaded;
    },
    less,
  )
    where
      before : Stands set files (names_of xs) top []
      before = last_stands set files [] xs top l.stand

      left_same : left_of set (on_path set files top_path) (taken top class) ≡ left_of set (on_path set files top_path) top
      left_same = taken_left set (on_path set files top_path) top found_name class s g

      stands : Stands set files (names_of xs) (taken top class) []
      stands = record {
        is_found = ap (found files) (sym (same_name class)) ∙ before.is_found ∙ ap ok (same_file class);
        is_off = ap (is_in (names_of xs)) (sym (same_name class)) ∙ before.is_off;
        is_left = subst (λ (n : List ℕ). on_path set files (names_of xs) n ≡ left_of set (on_path set files (names_of xs ++ n ∷ [])) (taken top class)) (same_name class) (before.is_left ∙ sym left_same);
        waits = tt;
      }
        where
          ok : Parts → Result Parts LoadFault
          ok file = Ok file

      less : unpassed (weight files) (is_met met) (known files) + all_left (xs ++ taken top class ∷ []) < unpassed (weight files) (is_met met) (known files) + all_left (xs ++ top ∷ [])
      less =
          let a = all_left-last xs top in
          let b = all_left-last xs (taken top class) in
          let m = more_done class found_name s in
          omega (arith, a, b, m)

  -- a class that was loaded before is the super, where it may stand above
  pub given_ready : (super : List ℕ) (class : Lineage) → super_at top.file top.next ≡ Some (Some super) → on_path set files [] super ≡ Ok class
      → may_stand (is_interface_place top.next) top.name class.file ≡ Ok tt → Given (on_path set files top_path) (is_interface_place top.next) top.name (Some super) (Some class)
  given_ready super class s e m =
      ap (λ (r : Result Lineage LoadFault). r >>= λ one. may_stand (is_interface_place top.next) top.name one.file >>= λ stands. Ok one) (serves set files xs top super class l.stand s e)
      ∙ ap (λ (r : Result (Unit {0}) LoadFault). r >>= λ stands. Ok class) m

  pub may_not_stand : (super : List ℕ) (class : Lineage) (fault : LoadFault) → super_at top.file top.next ≡ Some (Some super) → on_path set files [] super ≡ Ok class
      → may_stand (is_interface_place top.next) top.name class.file ≡ Err fault → on_path set files [] root ≡ Err fault
  may_not_stand super class fault s e m =
      last_fails set files root xs top super fault l.stand l.rooted s
      (ap (λ (r : Result Lineage LoadFault). r >>= λ one. may_stand (is_interface_place top.next) top.name one.file >>= λ stands. Ok one) (serves set files xs top super class l.stand s e)
      ∙ ap (λ (r : Result (Unit {0}) LoadFault). r >>= λ stands. ok class) m)
    where
      ok : Lineage → Result Lineage LoadFault
      ok k = Ok k

  -- ---- a super that is not there

  pub not_found : (super : List ℕ) (fault : LoadFault) → super_at top.file top.next ≡ Some (Some super) → found files super ≡ Err fault → on_path set files [] root ≡ Err fault
  not_found super fault s e = super_fault set files root xs top super fault l.stand l.rooted s (lost set files top_path super fault e)

  found_on : (path : List (List ℕ)) (ys : List Begun) (name : List ℕ) → AllStand set files path ys → is_in (names_of ys) name ≡ true → (file : Parts) × (found files name ≡ Ok file)
  found_on path [] name a e = absurd cc
  found_on path (y ∷ ys) name a e = by (bytes_eq y.name name) refl e (λ t. found_on (path ++ y.name ∷ []) ys name a.1 t)
    where
      by : (b : Bool) → bytes_eq y.name name ≡ b → (b || is_in (names_of ys) name) ≡ true → (is_in (names_of ys) name ≡ true → (file : Parts) × (found files name ≡ Ok file)) → (file : Parts) × (found files name ≡ Ok file)
      by true e t rest = let same : y.name ≡ name = (bytes_eq-Decides y.name name).0 e in (y.file, ap (found files) (sym same) ∙ a.0.is_found)
      by false e t rest = rest t

  pub is_circular : (super : List ℕ) → super_at top.file top.next ≡ Some (Some super) → row super met ≡ Some None → on_path set files [] root ≡ Err Circular
  is_circular super s r =
      let on : is_in (names_of (xs ++ top ∷ [])) super ≡ true = l.path.each super ∙ ap is_begun r in
      let f = found_on [] (xs ++ top ∷ []) super l.stand on in
      super_fault set files root xs top super Circular l.stand l.rooted s
      (circular set files top_path super f.0 f.1 (ap (λ (ns : List (List ℕ)). is_in ns super) (sym (names_last set files xs top)) ∙ on))

  -- ---- a super that is begun

  pub is_opened : (super : List ℕ) (file : Parts) (new : Rows (Option Lineage)) → super_at top.file top.next ≡ Some (Some super) → row super met ≡ None → found files super ≡ Ok file → Puts met super None new
      → IsLoading set files root ((xs ++ top ∷ []) ++ begun_of super file ∷ []) new × (to_do files ((xs ++ top ∷ []) ++ begun_of super file ∷ []) new < to_do files (xs ++ top ∷ []) met)
  unfolding to_do
  is_opened super file new s r f p = (
    record {
      stand = with_next set files [] xs top (begun_of super file) l.stand s (new_stands set files (names_of (xs ++ top ∷ [])) super file f off);
      rooted = rooted_more root xs top (begun_of super file) l.rooted;
      path = record { each = on };
      loaded = record { each = done };
    },
    less,
  )
    where
      off : is_in (names_of (xs ++ top ∷ [])) super ≡ false
      off = l.path.each super ∙ ap is_begun r

      at_name : (name : List ℕ) (b : Bool) → bytes_eq name super ≡ b → row name new ≡ cond b (Some None) (row name met)
      at_name name b e = p name ∙ ap (λ (c : Bool). cond c (Some None) (row name met)) e

      longer : (name : List ℕ) → is_in (names_of ((xs ++ top ∷ []) ++ begun_of super file ∷ [])) name ≡ (is_in (names_of (xs ++ top ∷ [])) name || (bytes_eq name super || false))
      longer name =
          ap (λ (ns : List (List ℕ)). is_in ns name) (names_last set files (xs ++ top ∷ []) (begun_of super file))
          ∙ is_in-longer (names_of (xs ++ top ∷ [])) super name
          ∙ ap (λ (b : Bool). is_in (names_of (xs ++ top ∷ [])) name || (b || false)) (eq_back super name)

      on : (name : List ℕ) → is_in (names_of ((xs ++ top ∷ []) ++ begun_of super file ∷ [])) name ≡ is_begun (row name new)
      on name = by (bytes_eq name super) refl
        where
          yes : (b : Bool) → (b || (true || false)) ≡ true
          yes true = refl
          yes false = refl

          no : (b : Bool) → (b || (false || false)) ≡ b
          no true = refl
          no false = refl

          by : (b : Bool) → bytes_eq name super ≡ b → is_in (names_of ((xs ++ top ∷ []) ++ begun_of super file ∷ [])) name ≡ is_begun (row name new)
          by true e =
              longer name ∙ ap (λ (b : Bool). is_in (names_of (xs ++ top ∷ [])) name || (b || false)) e ∙ yes (is_in (names_of (xs ++ top ∷ [])) name)
              ∙ sym (ap is_begun (at_name name true e))
          by false e =
              longer name ∙ ap (λ (b : Bool). is_in (names_of (xs ++ top ∷ [])) name || (b || false)) e ∙ no (is_in (names_of (xs ++ top ∷ [])) name)
              ∙ l.path.each name ∙ sym (ap is_begun (at_name name false e))

      done : (name : List ℕ) (class : Lineage) → row name new ≡ Some (Some class) → on_path set files [] name ≡ Ok class
      done name class q = by (bytes_eq name super) refl
        where
          by : (b : Bool) → bytes_eq name super ≡ b → on_path set files [] name ≡ Ok class
          by true e = absurd (let z = sym (at_name name true e) ∙ q in cc)
          by false e = l.loaded.each name class (sym (at_name name false e) ∙ q)

      met_before : (name : List ℕ) → is_met met name ≡ true → is_met new name ≡ true
      met_before name m = by (bytes_eq name super) refl
        where
          by : (b : Bool) → bytes_eq name super ≡ b → is_met new name ≡ true
          by true e = ap is_some (at_name name true e)
          by false e = ap is_some (at_name name false e) ∙ m

      less : unpassed (weight files) (is_met new) (known files) + all_left ((xs ++ top ∷ []) ++ begun_of super file ∷ []) < unpassed (weight files) (is_met met) (known files) + all_left (xs ++ top ∷ [])
      less =
          let o = one_fewer (weight files) (is_met met) (is_met new) met_before super (ap is_some r) (ap is_some (at_name super true ((bytes_eq-Decides super super).1 refl))) (known files) (known_name files super file f) in
          let w : weight files super ≡ length file.interfaces + 3 = ap steps_of f in
          let a = all_left-last (xs ++ top ∷ []) (begun_of super file) in
          omega (arith, o, w, a)
