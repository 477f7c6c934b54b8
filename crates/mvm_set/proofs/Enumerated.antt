-- The superinterfaces of a class are enumerated: all of them, and each behind its own.
use Rattle.std.proofs.Common.{◌≡◌, ℕ, Bool, true, false, cond, List, [], ◌∷◌, ◌++◌, inl, inr, refl, sym, ap, subst, ◌∙◌}
use Rattle.std.specs.Prelude.{◌||◌, not}
use Rattle.std.specs.List.{list_any}
use Rattle.std.proofs.lemmas.List.Folds.{list_any-append}
use Rattle.mvm_layout.specs.Pool.{is_text}
use Rattle.mvm_layout.specs.declared.parts.Parts.{Parts}
use Rattle.mvm_shape.specs.Members.{same_text}
use Rattle.mvm_set.specs.Names.{is_called}
use Rattle.mvm_set.specs.Once.{without, once}
use Rattle.mvm_set.specs.Family.{Family, family, Families, none, more, file, name, Extended, direct, direct_later, extended_first, IsSuperinterface, enumerated, all_enumerated, superinterfaces}
use Rattle.mvm_set.specs.ClassOf.{own_walk, class_of}
use Rattle.mvm_set.proofs.Once.{same_names}
use Rattle.mvm_set.proofs.Single.{or_assoc}
use Rattle.mvm_set.proofs.Walked.{any-once, any-map, or_cases, or_left, or_right}

-- ---- all of them, and no others

module _ (test : Family → Bool) where
  -- one that passes the test, among these interfaces or their superinterfaces
  abbrev Passing : Families → Type 0
  Passing ones = (other : Family) × Extended other ones × (test other ≡ true)

  abbrev later_one : (one : Family) (others : Families) → Passing others → Passing (more one others)
  later_one one others p = (p.0, direct_later p.1, p.2)

  mutual
    unfolding enumerated

    extended-found : (ones : Families) → list_any test (all_enumerated ones) ≡ true → Passing ones
    extended-found none e = absurd cc
    extended-found (more one others) e =
        elim (or_cases (list_any test (enumerated one)) (list_any test (all_enumerated others)) (sym (list_any-append test (enumerated one) (all_enumerated others)) ∙ e)) [
          | inl a ↦ one-found one others a
          | inr b ↦ later_one one others (extended-found others b)
        ]

    one-found : (one : Family) (others : Families) → list_any test (enumerated one) ≡ true → Passing (more one others)
    one-found (family parts above across) others e =
        elim (or_cases (list_any test (all_enumerated across)) (test (family parts above across) || false) (sym (list_any-append test (all_enumerated across) (family parts above across ∷ [])) ∙ e)) [
          | inl a ↦ (let p = extended-found across a in (p.0, extended_first p.1, p.2))
          | inr r ↦ elim (or_cases (test (family parts above across)) false r) [
            | inl b ↦ (family parts above across, direct, b)
            | inr b ↦ absurd cc
          ]
        ]

  found-extended : {other : Family} {ones : Families} → Extended other ones → test other ≡ true → list_any test (all_enumerated ones) ≡ true
  unfolding enumerated
  found-extended (direct {one = family p u c} {others = others}) e =
      list_any-append test (enumerated (family p u c)) (all_enumerated others)
      ∙ or_left (list_any test (enumerated (family p u c))) (list_any test (all_enumerated others))
      (list_any-append test (all_enumerated c) (family p u c ∷ [])
      ∙ or_right (list_any test (all_enumerated c)) (test (family p u c) || false) (or_left (test (family p u c)) false e))
  found-extended (direct_later {other = one} {others = others} a) e =
      list_any-append test (enumerated one) (all_enumerated others) ∙ or_right (list_any test (enumerated one)) (list_any test (all_enumerated others)) (found-extended a e)
  found-extended (extended_first {parts = p} {above = u} {across = c} {others = others} a) e =
      list_any-append test (enumerated (family p u c)) (all_enumerated others)
      ∙ or_left (list_any test (enumerated (family p u c))) (list_any test (all_enumerated others))
      (list_any-append test (all_enumerated c) (family p u c ∷ [])
      ∙ or_left (list_any test (all_enumerated c)) (test (family p u c) || false) (found-extended a e))

listed : (set : ℕ) (parts : Parts) (above across : Families) (n : List ℕ)
    → list_any (λ own. is_called n own.file) (class_of set (family parts above across)).superinterfaces ≡ list_any (λ other. is_called n (file other)) (all_enumerated across)
unfolding class_of own_walk superinterfaces
listed set parts above across n =
    any-map own_walk (λ own. is_called n own.file) (superinterfaces (family parts above across))
    ∙ any-once name (λ found. is_text n found) (all_enumerated across)

pub superinterfaces_only : (set : ℕ) (one : Family) (n : List ℕ) → list_any (λ own. is_called n own.file) (class_of set one).superinterfaces ≡ true
    → (other : Family) × IsSuperinterface other one × (is_called n (file other) ≡ true)
superinterfaces_only set (family p u c) n e = extended-found (λ (other : Family). is_called n (file other)) c (sym (listed set p u c n) ∙ e)

pub superinterfaces_all : (set : ℕ) (one other : Family) (n : List ℕ) → IsSuperinterface other one → is_called n (file other) ≡ true
    → list_any (λ own. is_called n own.file) (class_of set one).superinterfaces ≡ true
superinterfaces_all set (family p u c) other n s e = listed set p u c n ∙ found-extended (λ (other : Family). is_called n (file other)) s e

-- ---- each behind its own superinterfaces

abbrev Names : Type 0
Names = List ℕ → Bool

abbrev called_in : List Family → Names
called_in ones n = list_any (λ (one : Family). is_called n (file one)) ones

abbrev and_name : Names → Family → Names
and_name met one n = met n || is_called n (file one)

-- the names of its superinterfaces were met
abbrev HasMet : Names → Family → Type 0
HasMet met one = (over : Family) (n : List ℕ) → IsSuperinterface over one → is_called n (file over) ≡ true → met n ≡ true

-- the names of the superinterfaces of each were met, or stand before it
abbrev AreBehind : Names → List Family → Type 0
AreBehind met [] = Unit {0}
AreBehind met (one ∷ ones) = HasMet met one × AreBehind (and_name met one) ones

wider_by : (met next : Names) (one : Family) → ((n : List ℕ) → met n ≡ true → next n ≡ true) → (n : List ℕ) → and_name met one n ≡ true → and_name next one n ≡ true
wider_by met next one wider n e =
    elim (or_cases (met n) (is_called n (file one)) e) [
      | inl a ↦ or_left (next n) (is_called n (file one)) (wider n a)
      | inr b ↦ or_right (next n) (is_called n (file one)) b
    ]

more_met : (met next : Names) → ((n : List ℕ) → met n ≡ true → next n ≡ true) → (ones : List Family) → AreBehind met ones → AreBehind next ones
more_met met next wider [] b = tt
more_met met next wider (one ∷ ones) b = (
  (λ over n s e. wider n (b.0 over n s e)),
  more_met (and_name met one) (and_name next one) (wider_by met next one wider) ones b.1,
)

behind-append : (met : Names) (ones others : List Family) → AreBehind met ones → AreBehind (λ n. met n || called_in ones n) others → AreBehind met (ones ++ others)
behind-append met [] others b c = more_met (λ n. met n || false) met (λ n e. elim (or_cases (met n) false e) [ inl a ↦ a | inr d ↦ absurd cc ]) others c
behind-append met (one ∷ ones) others b c = (
  b.0,
  behind-append (and_name met one) ones others b.1
      (more_met (λ n. met n || called_in (one ∷ ones) n) (λ n. and_name met one n || called_in ones n) (λ n e. or_assoc (met n) (is_called n (file one)) (called_in ones n) ∙ e) others c),
)

mutual
  unfolding enumerated

  all-behind : (met : Names) (ones : Families) → AreBehind met (all_enumerated ones)
  all-behind met none = tt
  all-behind met (more one others) = behind-append met (enumerated one) (all_enumerated others) (one-behind met one) (all-behind (λ n. met n || called_in (enumerated one) n) others)

  one-behind : (met : Names) (one : Family) → AreBehind met (enumerated one)
  one-behind met (family p u c) =
      behind-append met (all_enumerated c) (family p u c ∷ []) (all-behind met c)
      ((λ over n s e. or_right (met n) (called_in (all_enumerated c) n) (found-extended (λ (other : Family). is_called n (file other)) s e)), tt)

-- one whose name was met may be left out
without-behind : (one : Family) (met : Names) → ((n : List ℕ) → is_called n (file one) ≡ true → met n ≡ true) → (ones : List Family) → AreBehind met ones → AreBehind met (without name one ones)
without-behind one met had [] b = tt
without-behind one met had (other ∷ others) b =
    by (same_text (name other) (name one)) refl
    (λ rest. without-behind one met had others rest)
    (λ rest. without-behind one (and_name met other) (λ n e. or_left (met n) (is_called n (file other)) (had n e)) others rest)
  where
    met_before : same_text (name other) (name one) ≡ true → (n : List ℕ) → and_name met other n ≡ true → met n ≡ true
    met_before s n e =
        elim (or_cases (met n) (is_called n (file other)) e) [
          | inl a ↦ a
          | inr d ↦ had n (sym (ap (is_text n) (same_names (name other) (name one) s)) ∙ d)
        ]

    by : (same : Bool) → same_text (name other) (name one) ≡ same → (AreBehind met others → AreBehind met (without name one others))
        → (AreBehind (and_name met other) others → AreBehind (and_name met other) (without name one others))
        → AreBehind met (cond (not same) (other ∷ without name one others) (without name one others))
    by true s left kept = left (more_met (and_name met other) met (met_before s) others b.1)
    by false s left kept = (b.0, kept b.1)

once-behind : (met : Names) (ones : List Family) → AreBehind met ones → AreBehind met (once name ones)
once-behind met [] b = tt
once-behind met (one ∷ ones) b = (
  b.0,
  without-behind one (and_name met one) (λ n e. or_right (met n) (is_called n (file one)) e) (once name ones) (once-behind (and_name met one) ones b.1),
)

behind-split : (met : Names) (before : List Family) (other : Family) (behind : List Family) → AreBehind met (before ++ other ∷ behind) → HasMet (λ n. met n || called_in before n) other
behind-split met [] other behind b = λ over n s e. or_left (met n) false (b.0 over n s e)
behind-split met (one ∷ before) other behind b = λ over n s e.
    sym (or_assoc (met n) (is_called n (file one)) (called_in before n)) ∙ behind-split (and_name met one) before other behind b.1 over n s e

pub superinterfaces_behind : (one other over : Family) (before behind : List Family) (n : List ℕ) → superinterfaces one ≡ before ++ other ∷ behind
    → IsSuperinterface over other → is_called n (file over) ≡ true → list_any (λ (earlier : Family). is_called n (file earlier)) before ≡ true
unfolding superinterfaces
superinterfaces_behind (family p u c) other over before behind n e s f =
    let none_met : Names = λ n. false in
    behind-split none_met before other behind (subst (AreBehind none_met) e (once-behind none_met (all_enumerated c) (all-behind none_met c))) over n s f
