-- What is found in the lists of a class is what the rules over its family find.
use Rattle.std.proofs.Common.{◌≡◌, ℕ, ◌+◌, Bool, true, false, cond, List, [], ◌∷◌, ◌++◌, map, length, Option, Some, None, ◌⊎◌, inl, inr, refl, sym, ap, ◌∙◌, append_assoc, length-append}
use Rattle.std.specs.Prelude.{◌||◌, not, slice_get}
use Rattle.std.specs.List.{list_any, filter}
use Rattle.std.proofs.lemmas.List.Folds.{list_any-append}
use Rattle.mvm_layout.specs.declared.parts.Parts.{Parts}
use Rattle.mvm_layout.specs.Pool.{is_text}
use Rattle.mvm_shape.specs.Members.{same_text}
use Rattle.mvm_set.specs.Names.{is_called}
use Rattle.mvm_set.specs.Once.{without, once, AreKept, or_else, first}
use Rattle.mvm_set.specs.Family.{Family, family, Families, none, more, file, name, Among, later, over_first, across_first, Inherits, from_class, from_interface, visited, all_visited, walk, order, orders, checked, fault_in, fault_of}
use Rattle.mvm_set.specs.Family as tree
use Rattle.mvm_set.specs.ClassOf.{own_walk, class_of}
use Rattle.mvm_set.specs.Fields.{first_in, first_of, place_in, declared_by, or_found, found_from, found_in, placed, told}
use Rattle.mvm_set.specs.Access.{is_subclass}
use Rattle.mvm_set.proofs.Once.{same_names}
use Rattle.mvm_set.proofs.Kept.{first-append, kept-append, first-once}

-- ---- the orders are those of the rules

module _ {A : Type 0} (look : Family → Option A) where
  mutual
    unfolding visited first_in

    first-visited : (one : Family) → first look (visited one) ≡ first_in look one
    first-visited (family parts above across) =
        ap (or_else (look (family parts above across)))
        (first-append look (all_visited across) (all_visited above)
        ∙ ap (λ (p : Option A). or_else p (first look (all_visited above))) (first-all_visited across)
        ∙ ap (or_else (first_of look across)) (first-all_visited above))

    first-all_visited : (ones : Families) → first look (all_visited ones) ≡ first_of look ones
    first-all_visited none = refl
    first-all_visited (more one others) =
        first-append look (visited one) (all_visited others)
        ∙ ap (λ (p : Option A). or_else p (first look (all_visited others))) (first-visited one)
        ∙ ap (or_else (first_in look one)) (first-all_visited others)

  mutual
    unfolding order fault_in

    first-order : (one : Family) → first look (order one) ≡ fault_in look one
    first-order (family parts above across) =
        ap (or_else (look (family parts above across)))
        (first-append look (orders above) (orders across)
        ∙ ap (λ (p : Option A). or_else p (first look (orders across))) (first-orders above)
        ∙ ap (or_else (fault_of look above)) (first-orders across))

    first-orders : (ones : Families) → first look (orders ones) ≡ fault_of look ones
    first-orders none = refl
    first-orders (more one others) =
        first-append look (order one) (orders others)
        ∙ ap (λ (p : Option A). or_else p (first look (orders others))) (first-order one)
        ∙ ap (or_else (fault_in look one)) (first-orders others)

-- ---- fields and methods

at_end : {A : Type 0} (before : List A) (x : A) (xs : List A) → slice_get (before ++ x ∷ xs) (length before) ≡ Some x
at_end [] x xs = refl
at_end (y ∷ before) x xs = at_end before x xs

told-found : (look : Parts → Option ℕ) (before xs : List Family) → told (before ++ xs) (found_from (length before) look (map own_walk xs)) ≡ first (declared_by look) xs
unfolding own_walk
told-found look before [] = refl
told-found look before (x ∷ xs) = by (look (file x)) (told-found look (before ++ x ∷ []) xs)
  where
    by : (found : Option ℕ) → told ((before ++ x ∷ []) ++ xs) (found_from (length (before ++ x ∷ [])) look (map own_walk xs)) ≡ first (declared_by look) xs
        → told (before ++ x ∷ xs) (or_found (length before) found (found_from (length before + 1) look (map own_walk xs))) ≡ or_else (place_in x found) (first (declared_by look) xs)
    by (Some index) next = ap (placed index) (at_end before x xs)
    by None next =
        let l : length before + 1 ≡ length (before ++ x ∷ []) = sym (length-append before (x ∷ [])) in
        ap (λ (n : ℕ). told (before ++ x ∷ xs) (found_from n look (map own_walk xs))) l
        ∙ ap (λ (fs : List Family). told fs (found_from (length (before ++ x ∷ [])) look (map own_walk xs))) (sym (append_assoc before (x ∷ []) xs))
        ∙ next

pub walk_law : (look : Parts → Option ℕ) (kept : List ℕ → Option Family) (set : ℕ) (one : Family) → AreKept name kept (visited one)
    → told (walk one) (found_in look (class_of set one)) ≡ first_in (declared_by look) one
unfolding walk found_in class_of
walk_law look kept set one k = told-found look [] (walk one) ∙ first-once name kept (declared_by look) (visited one) k ∙ first-visited (declared_by look) one

-- ---- checks

kept-left : {A : Type 0} (name : A → Option (List ℕ)) (kept : List ℕ → Option A) (xs ys : List A) → AreKept name kept (xs ++ ys) → AreKept name kept xs
kept-left name kept [] ys k = tt
kept-left name kept (x ∷ xs) ys k = (k.0, kept-left name kept xs ys k.1)

kept-right : {A : Type 0} (name : A → Option (List ℕ)) (kept : List ℕ → Option A) (xs ys : List A) → AreKept name kept (xs ++ ys) → AreKept name kept ys
kept-right name kept [] ys k = k
kept-right name kept (x ∷ xs) ys k = kept-right name kept xs ys k.1

module _ (kept : List ℕ → Option Family) where
  mutual
    unfolding visited order

    pub kept-order : (one : Family) → AreKept name kept (visited one) → AreKept name kept (order one)
    kept-order (family parts above across) k = (
      k.0,
      kept-append name kept (orders above) (orders across)
          (kept-orders above (kept-right name kept (all_visited across) (all_visited above) k.1))
          (kept-orders across (kept-left name kept (all_visited across) (all_visited above) k.1)),
    )

    kept-orders : (ones : Families) → AreKept name kept (all_visited ones) → AreKept name kept (orders ones)
    kept-orders none k = tt
    kept-orders (more one others) k =
        kept-append name kept (order one) (orders others)
        (kept-order one (kept-left name kept (visited one) (all_visited others) k))
        (kept-orders others (kept-right name kept (visited one) (all_visited others) k))

first-map : {A B C : Type 0} (f : A → B) (look : B → Option C) (xs : List A) → first look (map f xs) ≡ first (λ x. look (f x)) xs
first-map f look [] = refl
first-map f look (x ∷ xs) = ap (or_else (look (f x))) (first-map f look xs)

pub checked_law : {A : Type 0} (check : Parts → Option A) (kept : List ℕ → Option Family) (set : ℕ) (one : Family) → AreKept name kept (visited one)
    → first (λ own. check own.file) (class_of set one).checked ≡ fault_in (λ other. check (file other)) one
unfolding checked class_of own_walk
checked_law check kept set one k =
    first-map own_walk (λ own. check own.file) (checked one)
    ∙ first-once name kept (λ other. check (file other)) (order one) (kept-order kept one k)
    ∙ first-order (λ other. check (file other)) one

-- ---- subclasses

any-weaker : {A : Type 0} (p q : A → Bool) → ((x : A) → p x ≡ true → q x ≡ true) → (xs : List A) → list_any p (filter q xs) ≡ list_any p xs
any-weaker p q h [] = refl
any-weaker p q h (x ∷ xs) = by (p x) (q x) refl refl (any-weaker p q h xs)
  where
    by : (a b : Bool) → p x ≡ a → q x ≡ b → list_any p (filter q xs) ≡ list_any p xs → list_any p (cond b (x ∷ filter q xs) (filter q xs)) ≡ (a || list_any p xs)
    by true true e f next = rw e refl
    by true false e f next = let g : q x ≡ true = h x e in absurd cc
    by false true e f next = rw e next
    by false false e f next = next

-- a test of names finds in the list in which each stands once what it finds in the whole
pub any-once : {A : Type 0} (name : A → Option (List ℕ)) (test : Option (List ℕ) → Bool) (xs : List A) → list_any (λ x. test (name x)) (once name xs) ≡ list_any (λ x. test (name x)) xs
any-once name test [] = refl
any-once name test (x ∷ xs) = by (test (name x)) refl (any-once name test xs)
  where
    differs : test (name x) ≡ false → (y : _) → test (name y) ≡ true → (b : Bool) → same_text (name y) (name x) ≡ b → not b ≡ true
    differs e y f false h = refl
    differs e y f true h = let n = ap test (same_names (name y) (name x) h) in absurd cc

    by : (b : Bool) → test (name x) ≡ b → list_any (λ y. test (name y)) (once name xs) ≡ list_any (λ y. test (name y)) xs
        → (b || list_any (λ y. test (name y)) (without name x (once name xs))) ≡ (b || list_any (λ y. test (name y)) xs)
    by true e next = refl
    by false e next = any-weaker (λ y. test (name y)) (λ y. not (same_text (name y) (name x))) (λ y f. differs e y f (same_text (name y) (name x)) refl) (once name xs) ∙ next

pub any-map : {A B : Type 0} (f : A → B) (test : B → Bool) (xs : List A) → list_any test (map f xs) ≡ list_any (λ x. test (f x)) xs
any-map f test [] = refl
any-map f test (x ∷ xs) = ap (λ (b : Bool). test (f x) || b) (any-map f test xs)

subclass-visited : (set : ℕ) (one : Family) (n : List ℕ) → is_subclass (class_of set one) n ≡ list_any (λ other. is_called n (file other)) (visited one)
unfolding is_subclass class_of own_walk walk
subclass-visited set one n =
    any-map own_walk (λ own. is_called n own.file) (walk one)
    ∙ any-once name (λ found. is_text n found) (visited one)

pub or_cases : (a b : Bool) → (a || b) ≡ true → (a ≡ true) ⊎ (b ≡ true)
or_cases true b e = inl refl
or_cases false b e = inr e

pub or_left : (a b : Bool) → a ≡ true → (a || b) ≡ true
or_left a b e = rw e refl

pub or_right : (a b : Bool) → b ≡ true → (a || b) ≡ true
or_right true b e = refl
or_right false b e = e

module _ (test : Family → Bool) where
  -- one that passes the test, among these or above them
  abbrev Passing : Families → Type 0
  Passing ones = (other : Family) × Among other ones × (test other ≡ true)

  abbrev later_one : (one : Family) (others : Families) → Passing others → Passing (more one others)
  later_one one others p = (p.0, later p.1, p.2)

  mutual
    unfolding visited

    among-found : (ones : Families) → list_any test (all_visited ones) ≡ true → Passing ones
    among-found none e = absurd cc
    among-found (more one others) e =
        elim (or_cases (list_any test (visited one)) (list_any test (all_visited others)) (sym (list_any-append test (visited one) (all_visited others)) ∙ e)) [
          | inl a ↦ one-found one others a
          | inr b ↦ later_one one others (among-found others b)
        ]

    one-found : (one : Family) (others : Families) → list_any test (visited one) ≡ true → Passing (more one others)
    one-found (family parts above across) others e =
        elim (or_cases (test (family parts above across)) (list_any test (all_visited across ++ all_visited above)) e) [
          | inl a ↦ (family parts above across, tree.first, a)
          | inr r ↦ elim (or_cases (list_any test (all_visited across)) (list_any test (all_visited above)) (sym (list_any-append test (all_visited across) (all_visited above)) ∙ r)) [
            | inl b ↦ (let p = among-found across b in (p.0, across_first p.1, p.2))
            | inr c ↦ (let p = among-found above c in (p.0, over_first p.1, p.2))
          ]
        ]

  found-among : {other : Family} {ones : Families} → Among other ones → test other ≡ true → list_any test (all_visited ones) ≡ true
  unfolding visited
  found-among (tree.first {one = family p u c} {others = others}) e =
      list_any-append test (visited (family p u c)) (all_visited others)
      ∙ or_left (list_any test (visited (family p u c))) (list_any test (all_visited others)) (or_left (test (family p u c)) (list_any test (all_visited c ++ all_visited u)) e)
  found-among (later {other = one} {others = others} a) e =
      list_any-append test (visited one) (all_visited others) ∙ or_right (list_any test (visited one)) (list_any test (all_visited others)) (found-among a e)
  found-among (over_first {parts = p} {above = u} {across = c} {others = others} a) e =
      list_any-append test (visited (family p u c)) (all_visited others)
      ∙ or_left (list_any test (visited (family p u c))) (list_any test (all_visited others))
      (or_right (test (family p u c)) (list_any test (all_visited c ++ all_visited u))
      (list_any-append test (all_visited c) (all_visited u) ∙ or_right (list_any test (all_visited c)) (list_any test (all_visited u)) (found-among a e)))
  found-among (across_first {parts = p} {above = u} {across = c} {others = others} a) e =
      list_any-append test (visited (family p u c)) (all_visited others)
      ∙ or_left (list_any test (visited (family p u c))) (list_any test (all_visited others))
      (or_right (test (family p u c)) (list_any test (all_visited c ++ all_visited u))
      (list_any-append test (all_visited c) (all_visited u) ∙ or_left (list_any test (all_visited c)) (list_any test (all_visited u)) (found-among a e)))

pub subclass_only : (set : ℕ) (one : Family) (n : List ℕ) → is_subclass (class_of set one) n ≡ true
    → (other : Family) × ((other ≡ one) ⊎ Inherits one other) × (is_called n (file other) ≡ true)
unfolding visited
subclass_only set (family p u c) n e =
    let test = λ (other : Family). is_called n (file other) in
    elim (or_cases (test (family p u c)) (list_any test (all_visited c ++ all_visited u)) (sym (subclass-visited set (family p u c) n) ∙ e)) [
      | inl a ↦ (family p u c, inl refl, a)
      | inr r ↦ elim (or_cases (list_any test (all_visited c)) (list_any test (all_visited u)) (sym (list_any-append test (all_visited c) (all_visited u)) ∙ r)) [
        | inl b ↦ (let q = among-found test c b in (q.0, inr (from_interface q.1), q.2))
        | inr d ↦ (let q = among-found test u d in (q.0, inr (from_class q.1), q.2))
      ]
    ]

pub subclass_itself : (set : ℕ) (one : Family) (n : List ℕ) → is_called n (file one) ≡ true → is_subclass (class_of set one) n ≡ true
unfolding visited
subclass_itself set (family p u c) n e =
    subclass-visited set (family p u c) n
    ∙ or_left (is_called n p) (list_any (λ other. is_called n (file other)) (all_visited c ++ all_visited u)) e

pub subclass_inherited : (set : ℕ) (one other : Family) (n : List ℕ) → Inherits one other → is_called n (file other) ≡ true → is_subclass (class_of set one) n ≡ true
unfolding visited
subclass_inherited set one other n (from_class {parts = p} {above = u} {across = c} a) e =
    let test = λ (other : Family). is_called n (file other) in
    subclass-visited set (family p u c) n
    ∙ or_right (is_called n p) (list_any test (all_visited c ++ all_visited u))
    (list_any-append test (all_visited c) (all_visited u) ∙ or_right (list_any test (all_visited c)) (list_any test (all_visited u)) (found-among test a e))
subclass_inherited set one other n (from_interface {parts = p} {above = u} {across = c} a) e =
    let test = λ (other : Family). is_called n (file other) in
    subclass-visited set (family p u c) n
    ∙ or_right (is_called n p) (list_any test (all_visited c ++ all_visited u))
    (list_any-append test (all_visited c) (all_visited u) ∙ or_left (list_any test (all_visited c)) (list_any test (all_visited u)) (found-among test a e))
