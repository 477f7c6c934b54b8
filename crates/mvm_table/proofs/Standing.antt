-- The classes that are begun, each for the sake of the one before.
use Rattle.std.proofs.Common.{◌≡◌, ℕ, ◌+◌, ◌<◌, Bool, false, List, [], ◌∷◌, ◌++◌, length, append_assoc, Some, Result, Ok, Err, refl, sym, ap, subst, ◌∙◌, arith}
use Rattle.mvm_base.specs.Answers.{◌>>=◌}
use Rattle.mvm_layout.specs.declared.parts.Parts.{Parts}
use Rattle.mvm_set.specs.Family.{Family}
use Rattle.mvm_set.specs.ClassOf.{class_of}
use Rattle.mvm_set.specs.declared.class.Lineage.{Lineage}
use Rattle.mvm_table.specs.Files.{File}
use Rattle.mvm_table.specs.Load.{is_in, may_stand, load_on, found, known}
use Rattle.mvm_table.specs.Loads.{classed}
use Rattle.mvm_table.specs.Begun.{Load, class_loaded, on_path, super_at, is_interface_place, names_of, begun_of, WaitsFor, Stands, AllStand, IsRooted}
use Rattle.mvm_table.specs.declared.begun.Begun.{Begun}
use Rattle.mvm_table.specs.declared.fault.LoadFault.{LoadFault}
use Rattle.mvm_table.proofs.Known.{known_name, file_named}
use Rattle.mvm_table.proofs.Paths.{loads_alone}
use Rattle.mvm_table.proofs.Sizes.{Steps, LeadsTo, LeadsOver, served}
use Rattle.mvm_table.proofs.Supers.{faulty_left, all_left, is_super}
use Rattle.mvm_table.proofs.Lineages.{opened}

pub nil : (xs : List (List ℕ)) → xs ++ [] ≡ xs
nil [] = refl
nil (x ∷ xs) = ap (λ (ys : List (List ℕ)). x ∷ ys) (nil xs)

pub family_of : (set : ℕ) (d : Result Family LoadFault) (class : Lineage) → classed set d ≡ Ok class → (one : Family) × (d ≡ Ok one) × (class_of set one ≡ class)
family_of set (Ok one) class e = (one, refl, cc)
family_of set (Err fault) class e = absurd cc

module _ (set : ℕ) (files : List File) where
  abbrev Standing : List (List ℕ) → List Begun → Type 0
  Standing path begun = AllStand set files path begun

  abbrev above : List (List ℕ) → Begun → List (List ℕ)
  above path begun = path ++ begun.name ∷ []

  -- the path of the last
  pub path_of : (path : List (List ℕ)) (x : Begun) (xs : List Begun) → above path x ++ names_of xs ≡ path ++ names_of (x ∷ xs)
  path_of path x xs = append_assoc path (x.name ∷ []) (names_of xs)

  pub last_stands : (path : List (List ℕ)) (xs : List Begun) (top : Begun) → Standing path (xs ++ top ∷ []) → Stands set files (path ++ names_of xs) top []
  last_stands path [] top s = subst (λ (p : List (List ℕ)). Stands set files p top []) (sym (nil path)) s.0
  last_stands path (x ∷ xs) top s = subst (λ (p : List (List ℕ)). Stands set files p top []) (path_of path x xs) (last_stands (above path x) xs top s.1)

  waits_less : (x : Begun) (xs : List Begun) (top : Begun) → WaitsFor x (xs ++ top ∷ []) → WaitsFor x xs
  waits_less x [] top w = tt
  waits_less x (y ∷ xs) top w = w

  pub without_last : (path : List (List ℕ)) (xs : List Begun) (top : Begun) → Standing path (xs ++ top ∷ []) → Standing path xs
  without_last path [] top s = tt
  without_last path (x ∷ xs) top s =
      (record { is_found = s.0.is_found; is_off = s.0.is_off; is_left = s.0.is_left; waits = waits_less x xs top s.0.waits }, without_last (above path x) xs top s.1)

  waits_same : (x : Begun) (xs : List Begun) (top other : Begun) → top.name ≡ other.name → WaitsFor x (xs ++ top ∷ []) → WaitsFor x (xs ++ other ∷ [])
  waits_same x [] top other n w = w ∙ ap (λ (name : List ℕ). Some (Some name)) n
  waits_same x (y ∷ xs) top other n w = w

  -- another in the place of the last, of the same name
  pub with_last : (path : List (List ℕ)) (xs : List Begun) (top other : Begun) → Standing path (xs ++ top ∷ []) → top.name ≡ other.name → Stands set files (path ++ names_of xs) other [] → Standing path (xs ++ other ∷ [])
  with_last path [] top other s n o = (subst (λ (p : List (List ℕ)). Stands set files p other []) (nil path) o, tt)
  with_last path (x ∷ xs) top other s n o = (
    record { is_found = s.0.is_found; is_off = s.0.is_off; is_left = s.0.is_left; waits = waits_same x xs top other n s.0.waits },
    with_last (above path x) xs top other s.1 n (subst (λ (p : List (List ℕ)). Stands set files p other []) (sym (path_of path x xs)) o),
  )

  waits_new : (x : Begun) (xs : List Begun) (top new : Begun) → WaitsFor x (xs ++ top ∷ []) → WaitsFor x ((xs ++ top ∷ []) ++ new ∷ [])
  waits_new x [] top new w = w
  waits_new x (y ∷ xs) top new w = w

  -- one more, for which the last waits
  pub with_next : (path : List (List ℕ)) (xs : List Begun) (top new : Begun) → Standing path (xs ++ top ∷ []) → super_at top.file top.next ≡ Some (Some new.name)
      → Stands set files (path ++ names_of (xs ++ top ∷ [])) new [] → Standing path ((xs ++ top ∷ []) ++ new ∷ [])
  with_next path [] top new s w o =
      (record { is_found = s.0.is_found; is_off = s.0.is_off; is_left = s.0.is_left; waits = w }, (o, tt))
  with_next path (x ∷ xs) top new s w o = (
    record { is_found = s.0.is_found; is_off = s.0.is_off; is_left = s.0.is_left; waits = waits_new x xs top new s.0.waits },
    with_next (above path x) xs top new s.1 w (subst (λ (p : List (List ℕ)). Stands set files p new []) (sym (path_of path x (xs ++ top ∷ []))) o),
  )

  -- a class of which nothing is done stands
  pub new_stands : (path : List (List ℕ)) (name : List ℕ) (file : Parts) → found files name ≡ Ok file → is_in path name ≡ false → Stands set files path (begun_of name file) []
  new_stands path name file f o =
      record { is_found = f; is_off = o; is_left = opened set files path name file f o ∙ all_left set (on_path set files (path ++ name ∷ [])) name file; waits = tt }

  -- ---- the first of them, by what the last gives

  abbrev first_name : Begun → List Begun → List ℕ
  first_name top [] = top.name
  first_name top (x ∷ xs) = x.name

  waits_first : (x : Begun) (xs : List Begun) (top : Begun) → WaitsFor x (xs ++ top ∷ []) → super_at x.file x.next ≡ Some (Some (first_name top xs))
  waits_first x [] top w = w
  waits_first x (y ∷ xs) top w = w

  super_fails : (load : Load) (sort : Bool) (name super : List ℕ) (fault : LoadFault) → load super ≡ Err fault → class_loaded load sort name super ≡ Err fault
  super_fails load sort name super fault e = ap (λ (r : Result Lineage LoadFault). r >>= λ class. may_stand sort name class.file >>= λ stands. Ok class) e

  first_fails : (path : List (List ℕ)) (xs : List Begun) (top : Begun) (fault : LoadFault) → Standing path (xs ++ top ∷ []) → on_path set files (path ++ names_of xs) top.name ≡ Err fault
      → on_path set files path (first_name top xs) ≡ Err fault
  first_fails path [] top fault s e = ap (λ (p : List (List ℕ)). on_path set files p top.name) (sym (nil path)) ∙ e
  first_fails path (x ∷ xs) top fault s e =
      let r = first_fails (above path x) xs top fault s.1 (ap (λ (p : List (List ℕ)). on_path set files p top.name) (path_of path x xs) ∙ e) in
      let w = waits_first x xs top s.0.waits in
      s.0.is_left ∙ faulty_left set (on_path set files (above path x)) x (first_name top xs) fault w
      (super_fails (on_path set files (above path x)) (is_interface_place x.next) x.name (first_name top xs) fault r)

  rooted_name : (root : List ℕ) (xs : List Begun) (top : Begun) → IsRooted root (xs ++ top ∷ []) → first_name top xs ≡ root
  rooted_name root [] top r = r
  rooted_name root (x ∷ xs) top r = r

  -- where the last is not to be had, the root is not
  pub root_fails : (root : List ℕ) (xs : List Begun) (top : Begun) (fault : LoadFault) → Standing [] (xs ++ top ∷ []) → IsRooted root (xs ++ top ∷ []) → on_path set files (names_of xs) top.name ≡ Err fault
      → on_path set files [] root ≡ Err fault
  root_fails root xs top fault s r e = ap (on_path set files []) (sym (rooted_name root xs top r)) ∙ first_fails [] xs top fault s e

  pub last_fails : (root : List ℕ) (xs : List Begun) (top : Begun) (super : List ℕ) (fault : LoadFault) → Standing [] (xs ++ top ∷ []) → IsRooted root (xs ++ top ∷ [])
      → super_at top.file top.next ≡ Some (Some super) → class_loaded (on_path set files (names_of xs ++ top.name ∷ [])) (is_interface_place top.next) top.name super ≡ Err fault
      → on_path set files [] root ≡ Err fault
  last_fails root xs top super fault s r w e =
      let t = last_stands [] xs top s in
      root_fails root xs top fault s r (t.is_left ∙ faulty_left set (on_path set files (names_of xs ++ top.name ∷ [])) top super fault w e)

  pub super_fault : (root : List ℕ) (xs : List Begun) (top : Begun) (super : List ℕ) (fault : LoadFault) → Standing [] (xs ++ top ∷ []) → IsRooted root (xs ++ top ∷ [])
      → super_at top.file top.next ≡ Some (Some super) → on_path set files (names_of xs ++ top.name ∷ []) super ≡ Err fault
      → on_path set files [] root ≡ Err fault
  super_fault root xs top super fault s r w e =
      last_fails root xs top super fault s r w (super_fails (on_path set files (names_of xs ++ top.name ∷ [])) (is_interface_place top.next) top.name super fault e)

  -- ---- a class that was loaded before

  -- the last waits for this super
  abbrev pub LastWaits : Begun → List Begun → List ℕ → Type 0
  LastWaits x [] super = super_at x.file x.next ≡ Some (Some super)
  LastWaits x (y ∷ xs) super = LastWaits y xs super

  leads : (x : Begun) (super : List ℕ) → found files x.name ≡ Ok x.file → super_at x.file x.next ≡ Some (Some super) → LeadsTo (found files) x.name super
  leads x super f w = (x.file, f, is_super x.file x.next super w)

  steps : (path : List (List ℕ)) (x : Begun) (xs : List Begun) (super : List ℕ) → Standing path (x ∷ xs) → LastWaits x xs super → Steps (found files) x.name (names_of xs) super
  steps path x [] super s w = leads x super s.0.is_found w
  steps path x (y ∷ xs) super s w = (leads x y.name s.0.is_found s.0.waits, steps (above path x) y xs super s.1 w)

  last_waits : (xs : List Begun) (x top : Begun) (super : List ℕ) → super_at top.file top.next ≡ Some (Some super) → LastWaits x (xs ++ top ∷ []) super
  last_waits [] x top super w = w
  last_waits (y ∷ xs) x top super w = last_waits xs y top super w

  leads_over : (xs : List Begun) (top : Begun) (super : List ℕ) → Standing [] (xs ++ top ∷ []) → super_at top.file top.next ≡ Some (Some super) → LeadsOver (found files) (names_of (xs ++ top ∷ [])) super
  leads_over [] top super s w = steps [] top [] super s w
  leads_over (x ∷ xs) top super s w = steps [] x (xs ++ top ∷ []) super s (last_waits xs x top super w)

  pub names_last : (xs : List Begun) (top : Begun) → names_of (xs ++ top ∷ []) ≡ names_of xs ++ top.name ∷ []
  names_last [] top = refl
  names_last (x ∷ xs) top = ap (λ (ns : List (List ℕ)). x.name ∷ ns) (names_last xs top)

  ok_classed : (one : Family) (class : Lineage) (r : Result Family LoadFault) → class_of set one ≡ class → r ≡ Ok one → classed set r ≡ Ok class
  ok_classed one class r c e = ap (classed set) e ∙ ap (λ (k : Lineage). ok k) c
    where
      ok : Lineage → Result Lineage LoadFault
      ok k = Ok k

  enough : length (known files) < length (known files) + 1
  enough = omega arith

  -- a class that was loaded is the super for which the last waits
  pub serves : (xs : List Begun) (top : Begun) (super : List ℕ) (class : Lineage) → Standing [] (xs ++ top ∷ []) → super_at top.file top.next ≡ Some (Some super)
      → on_path set files [] super ≡ Ok class → on_path set files (names_of xs ++ top.name ∷ []) super ≡ Ok class
  unfolding on_path
  serves xs top super class s w e =
      let f = family_of set (load_on (length (known files) + 1) (found files) [] super) class e in
      let l = subst (λ (p : List (List ℕ)). LeadsOver (found files) p super) (names_last xs top) (leads_over xs top super s w) in
      ok_classed f.0 class (load_on (length (known files) + 1) (found files) (names_of xs ++ top.name ∷ []) super) f.2
      (served (found files) (known files) (known_name files) (file_named files) (length (known files)) enough (names_of xs ++ top.name ∷ []) super f.0 l f.1)

  -- what was loaded on a path is the class of its name
  pub alone : (path : List (List ℕ)) (name : List ℕ) (class : Lineage) → on_path set files path name ≡ Ok class → on_path set files [] name ≡ Ok class
  unfolding on_path
  alone path name class e =
      let f = family_of set (load_on (length (known files) + 1) (found files) path name) class e in
      ok_classed f.0 class (load_on (length (known files) + 1) (found files) [] name) f.2
      (loads_alone (found files) (known files) (known_name files) (length (known files) + 1) (length (known files) + 1) path name f.0 enough f.1)
