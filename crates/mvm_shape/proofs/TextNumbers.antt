-- Numbers for texts, alike where the texts are equal.
use Rattle.std.proofs.Common.{◌≡◌, ℕ, zero, suc, ◌-◌, ◌<◌, Bool, true, false, ◌&&◌, ◌||◌, cond, List, [], ◌∷◌, ◌++◌, length, length-append, ◌≤◌, Option, Some, None, ◌⊎◌, inl, inr, refl, sym, ap, ◌∙◌, arith}
use Rattle.std.specs.Prelude.{slice_index, ◌==◌}
use Rattle.std.specs.List.{list_any}
use Rattle.std.specs.Map.{update}
use Rattle.std.specs.BTreeSet as sorted
use Rattle.std.specs.BTreeSet.{BTreeSet}
use Rattle.std.specs.declared.cmp.Ordering.{Ordering}
use Rattle.std.specs.declared.cmp.Ordering.TheVariants.{Less, Equal, Greater}
use Rattle.std.specs.Ordering.{is_eq, nat_cmp, ordering_then}
use Rattle.std.proofs.lemmas.Bool.Decides.{nat_tests}
use Rattle.std.specs.Option.{option_map}
use Rattle.std.specs.Str.{bytes_eq}
use Rattle.std.proofs.lemmas.Bool.{cases_lt}
use Rattle.std.proofs.lemmas.Option.{slice_get_past}
use Rattle.std.proofs.lemmas.Bool.Decides.{same_from_decides, Decides-eqb}
use Rattle.std.proofs.lemmas.List.Folds.{list_any-append}
use Rattle.std.proofs.lemmas.Slice.Eq.{bytes_eq-Decides}
use Rattle.std.proofs.lemmas.Grind.{common_steps}
use Rattle.mvm_layout.specs.declared.parts.Item.{Item}
use Rattle.mvm_layout.specs.declared.info.MemberInfo.{MemberInfo}
use Rattle.mvm_layout.specs.Pool.{text}
use Rattle.mvm_shape.specs.Members.{same_text, is_same}
use Rattle.mvm_shape.specs.TextNumbers.{Numbered, text_at, AreNumbers, number_at, is_number, is_pair, has_pair, pair_cmp, holds_pair, Adds}

-- ---- one text

pub no_text : (at : ℕ) (old : List ℕ → Option ℕ) (number : ℕ) → Numbered None at old number old
no_text at old number = record {
  kept = λ name n h. h;
  known = λ name h. absurd cc;
  only = λ name n h. inl h;
}

pub known_text : (text : List ℕ) (at : ℕ) (old : List ℕ → Option ℕ) (number : ℕ) → old text ≡ Some number → Numbered (Some text) at old number old
known_text text at old number has = record {
  kept = λ name n h. h;
  known = λ name h. (let e : text ≡ name = cc in rw (← e) has);
  only = λ name n h. inl h;
}

-- where a text is new, and its place is put into the map
pub new_text : (text : List ℕ) (at : ℕ) (old new : List ℕ → Option ℕ) → old text ≡ None → ((name : List ℕ) → new name ≡ update bytes_eq old text (Some at) name) → Numbered (Some text) at old at new
new_text text at old new none updates = record {
  kept = λ name n h. kept_by (bytes_eq text name) name n h refl;
  known = λ name h. (let e : text ≡ name = cc in updates name ∙ rw ((bytes_eq-Decides text name).1 e) refl);
  only = λ name n h. only_by (bytes_eq text name) name n (sym (updates name) ∙ h) refl;
}
  where
    kept_by : (b : Bool) (name : List ℕ) (n : ℕ) → old name ≡ Some n → bytes_eq text name ≡ b → new name ≡ Some n
    kept_by true name n h e = let same : text ≡ name = (bytes_eq-Decides text name).0 e in let other : old name ≡ None = rw (← same) none in absurd cc
    kept_by false name n h e = updates name ∙ rw e h

    only_by : (b : Bool) (name : List ℕ) (n : ℕ) → update bytes_eq old text (Some at) name ≡ Some n → bytes_eq text name ≡ b → (old name ≡ Some n) ⊎ ((Some text ≡ Some name) × (n ≡ at))
    only_by true name n h e = let same : text ≡ name = (bytes_eq-Decides text name).0 e in let k = rw e at h in inr (ap (λ (x : List ℕ). Some x) same, cc)
    only_by false name n h e = inl (rw e at h)

-- ---- the texts so far

pub record Numbering (pool : List Item) (numbers : List ℕ) (seen : List ℕ → Option ℕ) : Type 0 where
  pub found : (k : ℕ) (name : List ℕ) → k < length numbers → text_at pool k ≡ Some name → seen name ≡ Some (slice_index numbers k)
  pub holds : (name : List ℕ) (n : ℕ) → seen name ≡ Some n → text_at pool n ≡ Some name

within : (pool : List Item) (k : ℕ) (name : List ℕ) → text_at pool k ≡ Some name → k < length pool
within pool k name h = by (cases_lt k (length pool))
  where
    by : (k < length pool) ⊎ (length pool ≤ k) → k < length pool
    by (inl less) = less
    by (inr past) = let e = slice_get_past pool k past in let none : text_at pool k ≡ None = rw e refl in absurd cc

pub next_number : (pool : List Item) (numbers : List ℕ) (at number : ℕ) (seen new : List ℕ → Option ℕ) → length numbers ≡ at → Numbering pool numbers seen → Numbered (text_at pool at) at seen number new
    → Numbering pool (numbers ++ number ∷ []) new
next_number pool numbers at number seen new long so_far one = record {
  found = λ k name less has. found_by k name less has (cases_lt k (length numbers));
  holds = λ name n has. holds_by name n (one.only name n has);
}
  where
    found_by : (k : ℕ) (name : List ℕ) → k < length (numbers ++ number ∷ []) → text_at pool k ≡ Some name → (k < length numbers) ⊎ (length numbers ≤ k) → new name ≡ Some (slice_index (numbers ++ number ∷ []) k)
    found_by k name less has (inl before) =
        let e : slice_index (numbers ++ number ∷ []) k ≡ slice_index numbers k = grind (arith, common_steps) in
        one.kept name _ (so_far.found k name before has) ∙ ap (λ (n : ℕ). Some n) (sym e)
    found_by k name less has (inr past) =
        let here : k ≡ at = omega (arith, length-append numbers (number ∷ [])) in
        let e : slice_index (numbers ++ number ∷ []) k ≡ number = grind (arith, common_steps) in
        one.known name (rw here at has) ∙ ap (λ (n : ℕ). Some n) (sym e)

    holds_by : (name : List ℕ) (n : ℕ) → (seen name ≡ Some n) ⊎ ((text_at pool at ≡ Some name) × (n ≡ at)) → text_at pool n ≡ Some name
    holds_by name n (inl old) = so_far.holds name n old
    holds_by name n (inr here) = rw here.1 here.0

pub numbered : (pool : List Item) (numbers : List ℕ) (seen : List ℕ → Option ℕ) → Numbering pool numbers seen → length numbers ≡ length pool → AreNumbers pool numbers
numbered pool numbers seen all long = record {
  alike = λ i j name at_i at_j.
      let p = all.found i name (rw long (within pool i name at_i)) at_i in
      let q = all.found j name (rw long (within pool j name at_j)) at_j in cc;
  stand = λ i name at_i. all.holds name (slice_index numbers i) (all.found i name (rw long (within pool i name at_i)) at_i);
}

-- ---- two texts

abbrev same_number : Option ℕ → Option ℕ → Bool
same_number (Some a) other = is_number a other
same_number None other = false

in_place : (pool : List Item) (index : ℕ) (name : List ℕ) → text pool index ≡ Some name → text_at pool (index - 1) ≡ Some name
in_place pool zero name h = absurd cc
in_place pool (suc n) name h = let e : suc n - 1 ≡ n = omega arith in rw e h

and_false : (b : Bool) → (b && false) ≡ false
and_false true = refl
and_false false = refl

or_false : (b : Bool) → (b || false) ≡ b
or_false true = refl
or_false false = refl

module _ (pool : List Item) (numbers : List ℕ) (are : AreNumbers pool numbers) where
  same_is : (i j : ℕ) → same_text (text pool i) (text pool j) ≡ same_number (number_at pool numbers i) (number_at pool numbers j)
  same_is i j = by (text pool i) (text pool j) refl refl
    where
      equal : (s t : List ℕ) → text_at pool (i - 1) ≡ Some s → text_at pool (j - 1) ≡ Some t → slice_index numbers (i - 1) ≡ slice_index numbers (j - 1) → s ≡ t
      equal s t p q e =
          let one = are.stand (i - 1) s p in
          let other = are.stand (j - 1) t q in
          let third = rw e at one in cc

      alike : (s t : List ℕ) → text_at pool (i - 1) ≡ Some s → text_at pool (j - 1) ≡ Some t → s ≡ t → slice_index numbers (i - 1) ≡ slice_index numbers (j - 1)
      alike s t p q e = are.alike (i - 1) (j - 1) t (rw e at p) q

      by : (s t : Option (List ℕ)) → text pool i ≡ s → text pool j ≡ t
          → same_text s t ≡ same_number (option_map (λ (name : List ℕ). slice_index numbers (i - 1)) s) (option_map (λ (name : List ℕ). slice_index numbers (j - 1)) t)
      by None t p q = refl
      by (Some s) None p q = refl
      by (Some s) (Some t) p q =
          let at_i = in_place pool i s p in
          let at_j = in_place pool j t q in
          let d = Decides-eqb (slice_index numbers (i - 1)) (slice_index numbers (j - 1)) in
          same_from_decides (bytes_eq s t) (slice_index numbers (i - 1) == slice_index numbers (j - 1)) (bytes_eq-Decides s t)
          (λ e. equal s t at_i at_j (d.0 e), λ e. d.1 (alike s t at_i at_j e))

-- ---- pairs

same_as : (n a : ℕ) → is_eq (nat_cmp n a) ≡ (a == n)
same_as n a = grind (arith, nat_tests)

both : (o p : Ordering) → is_eq (ordering_then o p) ≡ (is_eq o && is_eq p)
both Less p = refl
both Equal p = refl
both Greater p = refl

or_cond : (test had : Bool) → cond test true had ≡ (had || test)
or_cond true true = refl
or_cond true false = refl
or_cond false true = refl
or_cond false false = refl

pub pair_added : (old new : BTreeSet (ℕ × ℕ)) (n d : ℕ) → sorted.Updates pair_cmp old new (n, d) true → (a b : ℕ) → holds_pair new a b ≡ (holds_pair old a b || is_pair (Some n) (Some d) a b)
pair_added old new n d updates a b =
    let one = same_as n a in
    let other = same_as d b in
    let e : is_eq (ordering_then (nat_cmp n a) (nat_cmp d b)) ≡ is_pair (Some n) (Some d) a b = both (nat_cmp n a) (nat_cmp d b) ∙ rw (one, other) refl in
    updates.0 (a, b) ∙ rw e (or_cond (is_pair (Some n) (Some d) a b) (holds_pair old a b))

-- ---- members

abbrev pair_of : List Item → List ℕ → MemberInfo → ℕ → ℕ → Bool
pair_of pool numbers member = is_pair (number_at pool numbers member.name) (number_at pool numbers member.desc)

split : (n d u v : Option ℕ) → (same_number n u && same_number d v) ≡ has_pair (is_pair u v) n d
split None d u v = refl
split (Some a) None u v = and_false (is_number a u)
split (Some a) (Some b) u v = refl

none_any : (members : List MemberInfo) → false ≡ list_any (λ (member : MemberInfo). false) members
none_any [] = refl
none_any (member ∷ members) = none_any members

any_pair : (pool : List Item) (numbers : List ℕ) (n d : Option ℕ) (before : List MemberInfo)
    → has_pair (λ a b. list_any (λ (x : MemberInfo). pair_of pool numbers x a b) before) n d ≡ list_any (λ (x : MemberInfo). has_pair (pair_of pool numbers x) n d) before
any_pair pool numbers None d before = none_any before
any_pair pool numbers (Some a) None before = none_any before
any_pair pool numbers (Some a) (Some b) before = refl

has_same : (f g : ℕ → ℕ → Bool) (n d : Option ℕ) → ((a b : ℕ) → f a b ≡ g a b) → has_pair f n d ≡ has_pair g n d
has_same f g None d h = refl
has_same f g (Some a) None h = refl
has_same f g (Some a) (Some b) h = h a b

pair_is : (pool : List Item) (numbers : List ℕ) → AreNumbers pool numbers → (member x : MemberInfo)
    → has_pair (pair_of pool numbers x) (number_at pool numbers member.name) (number_at pool numbers member.desc) ≡ is_same pool member x
pair_is pool numbers are member x =
    let name = same_is pool numbers are member.name x.name in
    let desc = same_is pool numbers are member.desc x.desc in
    sym (rw (name, desc) (split (number_at pool numbers member.name) (number_at pool numbers member.desc) (number_at pool numbers x.name) (number_at pool numbers x.desc)))

any_same : (f g : MemberInfo → Bool) (before : List MemberInfo) → ((x : MemberInfo) → f x ≡ g x) → list_any f before ≡ list_any g before
any_same f g [] h = refl
any_same f g (x ∷ before) h = let e = h x in rw (e, any_same f g before h) refl

pub adds : (pool : List Item) (numbers : List ℕ) → AreNumbers pool numbers → (old new : ℕ → ℕ → Bool) (member : MemberInfo) (had : Bool)
    → had ≡ has_pair old (number_at pool numbers member.name) (number_at pool numbers member.desc)
    → ((a b : ℕ) → new a b ≡ (old a b || pair_of pool numbers member a b)) → Adds pool numbers old new member had
adds pool numbers are old new member had same next = record {
  tells = λ before h.
      same ∙ has_same old _ (number_at pool numbers member.name) (number_at pool numbers member.desc) h.all
      ∙ any_pair pool numbers (number_at pool numbers member.name) (number_at pool numbers member.desc) before
      ∙ any_same _ (is_same pool member) before (pair_is pool numbers are member);
  next = λ before h. record { all = λ a b. next a b ∙ rw (h.all a b) (sym (appended before a b)) };
}
  where
    appended : (before : List MemberInfo) (a b : ℕ) → list_any (λ (x : MemberInfo). pair_of pool numbers x a b) (before ++ member ∷ []) ≡ (list_any (λ (x : MemberInfo). pair_of pool numbers x a b) before || pair_of pool numbers member a b)
    appended before a b = rw (list_any-append (λ (x : MemberInfo). pair_of pool numbers x a b) before (member ∷ []), or_false) refl
