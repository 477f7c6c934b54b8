-- Lists in which each name stands once are joined: only the names of all but one of them may stand twice.
use denote.Ref.{Bor}
use Rattle.std.proofs.Common.{◌≡◌, ℕ, ◌+◌, ◌<◌, zero, suc, Bool, true, false, cond, List, [], ◌∷◌, ◌++◌, length, take, drop, Option, refl, sym, ap, subst, ◌∙◌, append_assoc, arith}
use Rattle.std.specs.Prelude.{not, ◌&&◌, ◌||◌}
use Rattle.std.specs.List.{All, filter}
use Rattle.std.proofs.lemmas.List.Elements.{filter_agree, All-head, All-tail}
use Rattle.std.proofs.lemmas.List.Folds.{list_any-append}
use Rattle.mvm_shape.specs.Members.{same_text}
use Rattle.mvm_set.specs.ClassOf.{own_walk_name}
use Rattle.mvm_set.specs.Once.{without, once}
use Rattle.mvm_set.specs.Seen.{is_met, is_among, joined, IsOnce, AreSingle, unmet}
use Rattle.mvm_set.specs.declared.own.OwnWalk.{OwnWalk}
use Rattle.mvm_set.proofs.Once.{same_names, without-once, once-once}
use Rattle.mvm_set.proofs.Seen.{kept_more, started}

abbrev Test : Type 0
Test = Option (List ℕ) → Bool

or_false : (b : Bool) → (b || false) ≡ b
or_false true = refl
or_false false = refl

or_true : (b : Bool) → (b || true) ≡ true
or_true true = refl
or_true false = refl

and_false : (b : Bool) → (b && false) ≡ false
and_false true = refl
and_false false = refl

pub not_left : (a b : Bool) → (a || b) ≡ false → a ≡ false
not_left true b e = absurd cc
not_left false b e = refl

not_right : (a b : Bool) → (a || b) ≡ false → b ≡ false
not_right true b e = absurd cc
not_right false b e = e

-- ---- what is met

-- one of those that may stand twice is met
pub met_one : (repeats seen next : Test) (one : Option (List ℕ)) → repeats one ≡ true → ((other : Option (List ℕ)) → next other ≡ (seen other || same_text one other))
    → (other : Option (List ℕ)) → is_met repeats next other ≡ (is_met repeats seen other || (repeats one && same_text one other))
met_one repeats seen next one r added other = rw (added other, r) (by (same_text one other) refl)
  where
    by : (b : Bool) → same_text one other ≡ b → (repeats other && (seen other || b)) ≡ ((repeats other && seen other) || b)
    by true e = let here : repeats other ≡ true = ap repeats (sym (same_names one other e)) ∙ r in rw here (or_true (seen other) ∙ sym (or_true (seen other)))
    by false e = rw (or_false (seen other)) (sym (or_false (repeats other && seen other)))

-- one of the others leaves what was met
pub met_none : (repeats seen : Test) (one other : Option (List ℕ)) → repeats one ≡ false → is_met repeats seen other ≡ (is_met repeats seen other || (repeats one && same_text one other))
met_none repeats seen one other r = rw r (sym (or_false (is_met repeats seen other)))

-- ---- each name once

same_filter : (x : OwnWalk) (ys : List OwnWalk) → is_among (own_walk_name x) ys ≡ false → without own_walk_name x ys ≡ ys
same_filter x [] e = refl
same_filter x (y ∷ ys) e =
    let here : same_text (own_walk_name y) (own_walk_name x) ≡ false = not_left _ (is_among (own_walk_name x) ys) e in
    rw here (ap (λ (zs : List OwnWalk). y ∷ zs) (same_filter x ys (not_right (same_text (own_walk_name y) (own_walk_name x)) (is_among (own_walk_name x) ys) e)))

gone : (x : OwnWalk) (ys : List OwnWalk) → is_among (own_walk_name x) (without own_walk_name x ys) ≡ false
gone x [] = refl
gone x (y ∷ ys) = by (same_text (own_walk_name y) (own_walk_name x)) refl (gone x ys)
  where
    by : (b : Bool) → same_text (own_walk_name y) (own_walk_name x) ≡ b → is_among (own_walk_name x) (without own_walk_name x ys) ≡ false
        → is_among (own_walk_name x) (cond (not b) (y ∷ without own_walk_name x ys) (without own_walk_name x ys)) ≡ false
    by true e next = next
    by false e next = rw e next

tail_of : List OwnWalk → List OwnWalk
tail_of [] = []
tail_of (x ∷ xs) = xs

-- the first of a list in which each name stands once does not stand in the rest
alone : (x : OwnWalk) (xs : List OwnWalk) → once own_walk_name (x ∷ xs) ≡ x ∷ xs → is_among (own_walk_name x) xs ≡ false
unfolding tail_of
alone x xs e =
    let rest : without own_walk_name x (once own_walk_name xs) ≡ xs = ap tail_of e in
    subst (λ (ys : List OwnWalk). is_among (own_walk_name x) ys ≡ false) rest (gone x (once own_walk_name xs))

rest_once : (x : OwnWalk) (xs : List OwnWalk) → once own_walk_name (x ∷ xs) ≡ x ∷ xs → once own_walk_name xs ≡ xs
unfolding tail_of
rest_once x xs e =
    let rest : without own_walk_name x (once own_walk_name xs) ≡ xs = ap tail_of e in
    ap (once own_walk_name) (sym rest) ∙ sym (without-once own_walk_name x (once own_walk_name xs)) ∙ ap (without own_walk_name x) (once-once own_walk_name xs) ∙ rest

-- ---- one more is joined

step_single : (repeats seen next : Test) (kept more : List OwnWalk) (x : OwnWalk) (xs : List OwnWalk) → repeats (own_walk_name x) ≡ false → is_among (own_walk_name x) xs ≡ false
    → ((other : Option (List ℕ)) → is_met repeats next other ≡ is_met repeats seen other)
    → more ≡ kept ++ x ∷ [] → more ++ unmet repeats next xs ≡ kept ++ unmet repeats seen (x ∷ xs)
step_single repeats seen next kept more x xs r apart same e =
    let left : without own_walk_name x (once own_walk_name xs) ≡ once own_walk_name xs = without-once own_walk_name x xs ∙ ap (once own_walk_name) (same_filter x xs apart) in
    let new : is_met repeats seen (own_walk_name x) ≡ false = rw r refl in
    let same_tests : filter (λ own. not (is_met repeats next (own_walk_name own))) (once own_walk_name xs) ≡ filter (λ own. not (is_met repeats seen (own_walk_name own))) (once own_walk_name xs) =
    filter_agree (λ own. not (is_met repeats next (own_walk_name own))) (λ own. not (is_met repeats seen (own_walk_name own))) (λ own. ap not (same (own_walk_name own))) (once own_walk_name xs) in
    rw (e, left, new) (append_assoc kept (x ∷ []) (unmet repeats next xs) ∙ ap (λ (ys : List OwnWalk). kept ++ x ∷ ys) same_tests)

pub step : (repeats seen next : Test) (kept more : List OwnWalk) (x : OwnWalk) (xs : List OwnWalk)
    → (repeats (own_walk_name x) ≡ false → is_among (own_walk_name x) xs ≡ false)
    → ((other : Option (List ℕ)) → is_met repeats next other ≡ (is_met repeats seen other || (repeats (own_walk_name x) && same_text (own_walk_name x) other)))
    → more ≡ cond (is_met repeats seen (own_walk_name x)) kept (kept ++ x ∷ []) → more ++ unmet repeats next xs ≡ kept ++ unmet repeats seen (x ∷ xs)
step repeats seen next kept more x xs single added e = by (repeats (own_walk_name x)) refl
  where
    by : (b : Bool) → repeats (own_walk_name x) ≡ b → more ++ unmet repeats next xs ≡ kept ++ unmet repeats seen (x ∷ xs)
    by true r =
        kept_more own_walk_name kept more (is_met repeats seen) (is_met repeats next) x xs
        (λ other. added other ∙ ap (λ b. is_met repeats seen other || (b && same_text (own_walk_name x) other)) r) e
    by false r =
        step_single repeats seen next kept more x xs r (single r)
        (λ other. added other ∙ ap (λ b. is_met repeats seen other || (b && same_text (own_walk_name x) other)) r ∙ or_false (is_met repeats seen other))
        (e ∙ ap (λ b. cond (b && seen (own_walk_name x)) kept (kept ++ x ∷ [])) r)

-- ---- what stands behind

pub single_behind : (repeats : Test) (xs ys : List OwnWalk) → AreSingle repeats (xs ++ ys) → AreSingle repeats ys
single_behind repeats [] ys s = s
single_behind repeats (x ∷ xs) ys s = single_behind repeats xs ys s.1

pub single_drop : (repeats : Test) (i : ℕ) (xs ys : List OwnWalk) → AreSingle repeats (xs ++ ys) → AreSingle repeats (drop i xs ++ ys)
single_drop repeats zero xs ys s = s
single_drop repeats (suc i) [] ys s = s
single_drop repeats (suc i) (x ∷ xs) ys s = single_drop repeats i xs ys s.1

pub single_lists : (repeats : Test) (i : ℕ) (lists : List (Bor (List OwnWalk))) → AreSingle repeats (joined lists) → AreSingle repeats (joined (drop i lists))
single_lists repeats zero lists s = s
single_lists repeats (suc i) [] s = s
single_lists repeats (suc i) (list ∷ lists) s = single_lists repeats i lists (single_behind repeats list.now (joined lists) s)

-- ---- which names may stand twice

-- more of them may
pub single_more : (repeats next : Test) → ((other : Option (List ℕ)) → next other ≡ false → repeats other ≡ false) → (xs : List OwnWalk) → AreSingle repeats xs → AreSingle next xs
single_more repeats next fewer [] s = tt
single_more repeats next fewer (x ∷ xs) s = ((λ r. s.0 (fewer (own_walk_name x) r)), single_more repeats next fewer xs s.1)

false_of : (b : Bool) → (b ≡ true → ⊥) → b ≡ false
false_of true h = absurd (h refl)
false_of false h = refl

same_self : (one other : Option (List ℕ)) → same_text one other ≡ true → same_text other other ≡ true
same_self one other e = subst (λ (name : Option (List ℕ)). same_text name other ≡ true) (same_names one other e) e

among_self : (x : OwnWalk) (xs ys : List OwnWalk) → is_among (own_walk_name x) ys ≡ true → is_among (own_walk_name x) (x ∷ xs) ≡ true
among_self x xs [] e = absurd cc
among_self x xs (y ∷ ys) e = by (same_text (own_walk_name y) (own_walk_name x)) refl e (among_self x xs ys)
  where
    by : (b : Bool) → same_text (own_walk_name y) (own_walk_name x) ≡ b → (b || is_among (own_walk_name x) ys) ≡ true
        → (is_among (own_walk_name x) ys ≡ true → is_among (own_walk_name x) (x ∷ xs) ≡ true) → is_among (own_walk_name x) (x ∷ xs) ≡ true
    by true f g next = ap (λ b. b || is_among (own_walk_name x) xs) (same_self (own_walk_name y) (own_walk_name x) f)
    by false f g next = next g

-- a list of names that may all stand twice
all_repeat : (repeats : Test) (xs ys : List OwnWalk) → ((other : Option (List ℕ)) → is_among other xs ≡ true → repeats other ≡ true) → AreSingle repeats ys → AreSingle repeats (xs ++ ys)
all_repeat repeats [] ys all s = s
all_repeat repeats (x ∷ xs) ys all s = (
  (λ r. false_of (is_among (own_walk_name x) (xs ++ ys)) (λ f. let t : repeats (own_walk_name x) ≡ true = all (own_walk_name x) (among_self x xs (xs ++ ys) f) in absurd cc)),
  all_repeat repeats xs ys (λ other f. all other (ap (λ b. same_text (own_walk_name x) other || b) f ∙ or_true (same_text (own_walk_name x) other))) s,
)

-- a list in which each name stands once, before names that may all stand twice
once_before : (repeats : Test) (xs ys : List OwnWalk) → once own_walk_name xs ≡ xs → ((other : Option (List ℕ)) → is_among other ys ≡ true → repeats other ≡ true) → AreSingle repeats ys → AreSingle repeats (xs ++ ys)
once_before repeats [] ys one all s = s
once_before repeats (x ∷ xs) ys one all s = (
  (λ r. list_any-append (λ own. same_text (own_walk_name own) (own_walk_name x)) xs ys
      ∙ ap (λ b. b || is_among (own_walk_name x) ys) (alone x xs one)
      ∙ false_of (is_among (own_walk_name x) ys) (λ f. let t : repeats (own_walk_name x) ≡ true = all (own_walk_name x) f in absurd cc)),
  once_before repeats xs ys (rest_once x xs one) all s,
)

joined-append : (lists more : List (Bor (List OwnWalk))) → joined (lists ++ more) ≡ joined lists ++ joined more
joined-append [] more = refl
joined-append (list ∷ lists) more = ap (λ (owns : List OwnWalk). list.now ++ owns) (joined-append lists more) ∙ sym (append_assoc list.now (joined lists) (joined more))

no_more : (ys : List OwnWalk) → ys ++ [] ≡ ys
no_more [] = refl
no_more (y ∷ ys) = ap (λ (zs : List OwnWalk). y ∷ zs) (no_more ys)

-- of all lists but one the names may stand twice
pub single_all : (repeats : Test) (before after : List (Bor (List OwnWalk))) (list : Bor (List OwnWalk)) → once own_walk_name list.now ≡ list.now
    → ((other : Option (List ℕ)) → is_among other (joined before) ≡ true → repeats other ≡ true) → ((other : Option (List ℕ)) → is_among other (joined after) ≡ true → repeats other ≡ true)
    → AreSingle repeats (joined (before ++ list ∷ after))
single_all repeats before after list one first last =
    subst (AreSingle repeats) (sym (joined-append before (list ∷ after)))
    (all_repeat repeats (joined before) (list.now ++ joined after) first
    (once_before repeats list.now (joined after) one last
    (subst (AreSingle repeats) (no_more (joined after)) (all_repeat repeats (joined after) [] last tt))))

record Split (lists : List (Bor (List OwnWalk))) (place : ℕ) : Type 0 where
  list : Bor (List OwnWalk)
  is : lists ≡ take place lists ++ list ∷ drop (suc place) lists
  one : once own_walk_name list.now ≡ list.now

split : (lists : List (Bor (List OwnWalk))) (place : ℕ) → place < length lists → All IsOnce lists → Split lists place
split [] place h all = absurd (omega arith)
split (list ∷ lists) zero h all = record { list = list; is = refl; one = All-head IsOnce list lists all }
split (list ∷ lists) (suc place) h all =
    let s = split lists place (omega arith) (All-tail IsOnce list lists all) in
    record { list = s.list; is = ap (λ (others : List (Bor (List OwnWalk))). list ∷ others) s.is; one = s.one }

-- the names of the lists before a place and behind it may stand twice
pub single_parts : (repeats : Test) (lists before behind : List (Bor (List OwnWalk))) (place : ℕ) → place < length lists → before ≡ take place lists → behind ≡ drop (place + 1) lists → All IsOnce lists
    → ((other : Option (List ℕ)) → is_among other (joined before) ≡ true → repeats other ≡ true) → ((other : Option (List ℕ)) → is_among other (joined behind) ≡ true → repeats other ≡ true)
    → AreSingle repeats (joined lists)
single_parts repeats lists before behind place less e f all first last =
    let s = split lists place less all in
    let next : place + 1 ≡ suc place = omega arith in
    let g : behind ≡ drop (suc place) lists = f ∙ ap (λ (n : ℕ). drop n lists) next in
    subst (λ (parts : List (Bor (List OwnWalk))). AreSingle repeats (joined parts)) (sym s.is)
    (single_all repeats (take place lists) (drop (suc place) lists) s.list s.one
    (λ other h. first other (ap (λ (parts : List (Bor (List OwnWalk))). is_among other (joined parts)) e ∙ h))
    (λ other h. last other (ap (λ (parts : List (Bor (List OwnWalk))). is_among other (joined parts)) g ∙ h)))

-- one list more
pub more_lists : (lists new : List (Bor (List OwnWalk))) (list : Bor (List OwnWalk)) → new ≡ lists ++ list ∷ [] → joined new ≡ joined lists ++ list.now
more_lists lists new list e = ap joined e ∙ joined-append lists (list ∷ []) ∙ ap (λ (owns : List OwnWalk). joined lists ++ owns) (no_more list.now)

-- ---- the beginning

-- where the file's name may stand twice and was met, those of other names are left
pub begun : (repeats seen : Test) (one : Option (List ℕ)) → ((other : Option (List ℕ)) → same_text one other ≡ true → repeats other ≡ true)
    → ((other : Option (List ℕ)) → seen other ≡ same_text one other) → (xs : List OwnWalk)
    → unmet repeats seen xs ≡ filter (λ own. not (same_text (own_walk_name own) one)) (once own_walk_name xs)
begun repeats seen one all e xs =
    started own_walk_name one (λ other. false) (is_met repeats seen) (λ other. refl) (λ other. ap (λ b. repeats other && b) (e other) ∙ by other (same_text one other) refl) (once own_walk_name xs)
  where
    by : (other : Option (List ℕ)) (b : Bool) → same_text one other ≡ b → (repeats other && b) ≡ b
    by other true f = rw (all other f) refl
    by other false f = and_false (repeats other)

every : (test : OwnWalk → Bool) → ((x : OwnWalk) → test x ≡ true) → (xs : List OwnWalk) → filter test xs ≡ xs
every test all [] = refl
every test all (x ∷ xs) = rw (all x) (ap (λ (ys : List OwnWalk). x ∷ ys) (every test all xs))

-- where none was met, all are left
pub begun_none : (repeats seen : Test) → ((other : Option (List ℕ)) → seen other ≡ false) → (xs : List OwnWalk) → unmet repeats seen xs ≡ once own_walk_name xs
begun_none repeats seen none xs =
    every (λ own. not (is_met repeats seen (own_walk_name own)))
    (λ own. ap (λ b. not (repeats (own_walk_name own) && b)) (none (own_walk_name own)) ∙ ap not (and_false (repeats (own_walk_name own)))) (once own_walk_name xs)

-- ---- names are put together

pub or_assoc : (a b c : Bool) → ((a || b) || c) ≡ (a || (b || c))
or_assoc true b c = refl
or_assoc false b c = refl

pub file_met : (old next : Test) (x : OwnWalk) (xs : List OwnWalk) → ((other : Option (List ℕ)) → next other ≡ (old other || same_text (own_walk_name x) other))
    → (other : Option (List ℕ)) → (next other || is_among other xs) ≡ (old other || is_among other (x ∷ xs))
file_met old next x xs added other = ap (λ b. b || is_among other xs) (added other) ∙ or_assoc (old other) (same_text (own_walk_name x) other) (is_among other xs)

pub list_met : (old next : Test) (list rest : List OwnWalk) → ((other : Option (List ℕ)) → next other ≡ (old other || is_among other list))
    → (other : Option (List ℕ)) → (next other || is_among other rest) ≡ (old other || is_among other (list ++ rest))
list_met old next list rest added other =
    ap (λ b. b || is_among other rest) (added other) ∙ or_assoc (old other) (is_among other list) (is_among other rest)
    ∙ ap (λ b. old other || b) (sym (list_any-append (λ own. same_text (own_walk_name own) other) list rest))

pub or_none : (a : Bool) → (a || false) ≡ a
or_none a = or_false a

-- what is met stays
pub met_left : (a b : Bool) → a ≡ true → (a || b) ≡ true
met_left a b e = rw e refl

pub met_right : (a b : Bool) → b ≡ true → (a || b) ≡ true
met_right a b e = rw e (or_true a)
