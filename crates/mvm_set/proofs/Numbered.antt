-- Members are found by the numbers of their names and descriptors.
use Rattle.std.proofs.Common.{◌≡◌, ℕ, ◌+◌, ◌<◌, length, take, get_or, Bool, true, false, cond, List, [], ◌∷◌, Option, Some, None, refl, sym, ap, subst, ◌∙◌, arith}
use Rattle.std.specs.Prelude.{◌&&◌, ◌==◌, IsSome}
use Rattle.std.specs.List.{All}
use Rattle.std.proofs.lemmas.List.Elements.{All-weaker, All-more}
use Rattle.std.specs.BTreeMap as tree
use Rattle.std.specs.BTreeMap.{BTreeMap}
use Rattle.std.specs.Ordering.{is_eq, nat_cmp, ordering_then}
use Rattle.std.specs.Str.{bytes_eq}
use Rattle.std.specs.declared.cmp.Ordering.{Ordering}
use Rattle.std.specs.declared.cmp.Ordering.TheVariants.{Less, Equal, Greater}
use Rattle.std.proofs.lemmas.Bool.Decides.{nat_tests, Decides-eqb, same_from_decides}
use Rattle.std.proofs.lemmas.Slice.Eq.{bytes_eq-Decides}
use Rattle.mvm_layout.specs.Pool.{text, is_text}
use Rattle.mvm_layout.specs.declared.parts.Item.{Item}
use Rattle.mvm_layout.specs.declared.parts.Member.{Member}
use Rattle.mvm_set.proofs.Sources.{key_cmp, source_added}
use Rattle.mvm_set.specs.Set.{look}
use Rattle.mvm_set.specs.Index.{AreNumbers, HasNumber, HasNumbers, KeepNumbers, number_in, pair_cmp, place_of, is_pair, AddsPlace, IsIndex}

-- ---- numbers

-- a text gets the number of an entry that has it
module _ (pool : List Item) (one : List ℕ) (index : ℕ) (old new : List ℕ → Option ℕ) (has : text pool index ≡ Some one)
    (updates : (name : List ℕ) → new name ≡ cond (bytes_eq one name) (Some index) (old name)) where
  pub still_numbers : AreNumbers pool old → AreNumbers pool new
  still_numbers are name at e = by (bytes_eq one name) refl (sym (updates name) ∙ e)
    where
      by : (b : Bool) → bytes_eq one name ≡ b → cond b (Some index) (old name) ≡ Some at → text pool at ≡ Some name
      by true s h =
          let same : one ≡ name = (bytes_eq-Decides one name).0 s in
          let here : index ≡ at = cc in
          ap (text pool) (sym here) ∙ has ∙ ap (λ (units : List ℕ). Some units) same
      by false s h = are name at h

  pub still_kept : KeepNumbers old new
  still_kept name h = by (bytes_eq one name) (updates name)
    where
      by : (b : Bool) → new name ≡ cond b (Some index) (old name) → IsSome (new name)
      by true e = subst IsSome (sym e) refl
      by false e = subst IsSome (sym e) h

  pub now_numbered : HasNumber pool new index
  now_numbered name h =
      let same : one ≡ name = cc in
      subst IsSome (sym (updates name ∙ ap (λ (b : Bool). cond b (Some index) (old name)) ((bytes_eq-Decides one name).1 same))) refl

pub text_added : {K : Type 0} (units : K → List ℕ) (old new : BTreeMap K ℕ) (key : K) (one : List ℕ) (index : ℕ) → units key ≡ one → tree.Updates (key_cmp units) old new key (Some index)
    → (name : List ℕ) → look new units name ≡ cond (bytes_eq one name) (Some index) (look old units name)
text_added units old new key one index e updates name =
    source_added units old new key (Some index) updates name ∙ ap (λ (text : List ℕ). cond (bytes_eq text name) (Some index) (look old units name)) e

pub no_numbers : {K : Type 0} (pool : List Item) (texts : BTreeMap K ℕ) (units : K → List ℕ) → texts.entries ≡ [] → AreNumbers pool (look texts units)
no_numbers pool texts units e name index h = let n : look texts units name ≡ None = rw e refl in absurd cc

pub kept_all : (pool : List Item) (old new : List ℕ → Option ℕ) (members : List Member) → KeepNumbers old new → All (HasNumbers pool old) members → All (HasNumbers pool new) members
kept_all pool old new members kept all =
    All-weaker (HasNumbers pool old) (HasNumbers pool new) (λ member h. ((λ name e. kept name (h.0 name e)), (λ name e. kept name (h.1 name e)))) members all

pub have_more : (pool : List Item) (old next new : List ℕ → Option ℕ) (members : List Member) (i : ℕ) (member : Member) → i < length members → member ≡ get_or members i member
    → All (HasNumbers pool old) (take i members) → KeepNumbers old next → KeepNumbers next new → HasNumber pool next member.name → HasNumber pool new member.desc
    → All (HasNumbers pool new) (take (i + 1) members)
have_more pool old next new members i member less here all kept more name desc =
    let so_far = kept_all pool old new (take i members) (λ text h. more text (kept text h)) all in
    All-more (HasNumbers pool new) members i member less so_far (subst (HasNumbers pool new) here ((λ text e. more text (name text e)), desc))

-- ---- places

both : (o p : Ordering) → is_eq (ordering_then o p) ≡ (is_eq o && is_eq p)
both Less p = refl
both Equal p = refl
both Greater p = refl

same_number : (n a : ℕ) → is_eq (nat_cmp n a) ≡ (n == a)
same_number n a = grind (arith, nat_tests)

pub place_added : (old new : BTreeMap (ℕ × ℕ) ℕ) (n d place : ℕ) → tree.Updates pair_cmp old new (n, d) (Some place) → (a b : ℕ) → tree.get pair_cmp new (a, b) ≡ cond ((n == a) && (d == b)) (Some place) (tree.get pair_cmp old (a, b))
place_added old new n d place updates a b =
    updates.0 (a, b) ∙ ap (λ (t : Bool). cond t (Some place) (tree.get pair_cmp old (a, b))) (both (nat_cmp n a) (nat_cmp d b) ∙ rw (same_number n a, same_number d b) refl)

and_false : (b : Bool) → (b && false) ≡ false
and_false true = refl
and_false false = refl

none_pair : (name : Option ℕ) (a b : ℕ) → is_pair name None a b ≡ false
none_pair (Some n) a b = refl
none_pair None a b = refl

module _ (pool : List Item) (numbers : List ℕ → Option ℕ) (are : AreNumbers pool numbers) where
  -- of two names with numbers, one number is one name
  same_name : (one other : List ℕ) (n a : ℕ) → numbers one ≡ Some n → numbers other ≡ Some a → (n == a) ≡ bytes_eq one other
  same_name one other n a e f = same_from_decides (n == a) (bytes_eq one other) (to_name, to_number) (bytes_eq-Decides one other)
    where
      to_name : (n == a) ≡ true → one ≡ other
      to_name h =
          let s : n ≡ a = (Decides-eqb n a).0 h in
          let g : text pool a ≡ Some one = ap (text pool) (sym s) ∙ are one n e in
          let i = are other a f in cc

      to_number : one ≡ other → (n == a) ≡ true
      to_number h = let g : numbers other ≡ Some n = ap numbers (sym h) ∙ e in let s : n ≡ a = cc in (Decides-eqb n a).1 s

  apart : (one other : List ℕ) (n : ℕ) → numbers one ≡ Some n → numbers other ≡ None → bytes_eq one other ≡ false
  apart one other n e f = by (bytes_eq one other) refl
    where
      by : (b : Bool) → bytes_eq one other ≡ b → b ≡ false
      by false h = refl
      by true h = let s : one ≡ other = (bytes_eq-Decides one other).0 h in let g : numbers one ≡ None = ap numbers s ∙ f in absurd cc

  -- one more pair of names has its place
  pair_placed : (old new : BTreeMap (ℕ × ℕ) ℕ) (at : ℕ) (one other : List ℕ) (n d : ℕ) → numbers one ≡ Some n → numbers other ≡ Some d → AddsPlace (Some n) (Some d) at old new
      → (name desc : List ℕ) (u v : Option ℕ) → numbers name ≡ u → numbers desc ≡ v
      → place_of new u v ≡ cond (bytes_eq one name && bytes_eq other desc) (Some at) (place_of old u v)
  pair_placed old new at one other n d e f added name desc None v g h =
      sym (ap (λ (b : Bool). cond (b && bytes_eq other desc) (Some at) None) (apart one name n e g))
  pair_placed old new at one other n d e f added name desc (Some a) None g h =
      sym (ap (λ (b : Bool). cond (bytes_eq one name && b) (Some at) None) (apart other desc d f h) ∙ ap (λ (b : Bool). cond b (Some at) None) (and_false (bytes_eq one name)))
  pair_placed old new at one other n d e f added name desc (Some a) (Some b) g h =
      added a b ∙ ap (λ (t : Bool). cond t (Some at) (tree.get pair_cmp old (a, b))) (rw (same_name one name n a e g, same_name other desc d b f h) refl)

  -- a member that has no name or no descriptor has no place
  nothing_placed : (old new : BTreeMap (ℕ × ℕ) ℕ) → ((a b : ℕ) → tree.get pair_cmp new (a, b) ≡ tree.get pair_cmp old (a, b)) → (u v : Option ℕ) → place_of new u v ≡ place_of old u v
  nothing_placed old new same None v = refl
  nothing_placed old new same (Some a) None = refl
  nothing_placed old new same (Some a) (Some b) = same a b

  pub one_more_place : (old new : BTreeMap (ℕ × ℕ) ℕ) (at : ℕ) (member : Member) (members : List Member) → HasNumbers pool numbers member
      → AddsPlace (number_in numbers (text pool member.name)) (number_in numbers (text pool member.desc)) at old new
      → IsIndex (at + 1) numbers old pool members → IsIndex at numbers new pool (member ∷ members)
  one_more_place old new at member members has added rest name desc =
      by (text pool member.name) (text pool member.desc) has.0 has.1 added ∙ ap (cond (is_text name (text pool member.name) && is_text desc (text pool member.desc)) (Some at)) (rest name desc)
    where
      numbered : (one other : List ℕ) (n d : Option ℕ) → numbers one ≡ n → numbers other ≡ d → IsSome n → IsSome d → AddsPlace n d at old new
          → place_of new (numbers name) (numbers desc) ≡ cond (bytes_eq one name && bytes_eq other desc) (Some at) (place_of old (numbers name) (numbers desc))
      numbered one other None d e f h i added = absurd cc
      numbered one other (Some n) None e f h i added = absurd cc
      numbered one other (Some n) (Some d) e f h i added = pair_placed old new at one other n d e f added name desc (numbers name) (numbers desc) refl refl

      by : (s t : Option (List ℕ)) → ((one : List ℕ) → s ≡ Some one → IsSome (numbers one)) → ((one : List ℕ) → t ≡ Some one → IsSome (numbers one)) → AddsPlace (number_in numbers s) (number_in numbers t) at old new
          → place_of new (numbers name) (numbers desc) ≡ cond (is_text name s && is_text desc t) (Some at) (place_of old (numbers name) (numbers desc))
      by None t h i added = nothing_placed old new added (numbers name) (numbers desc)
      by (Some one) None h i added =
          nothing_placed old new (λ a b. added a b ∙ ap (λ (t : Bool). cond t (Some at) (tree.get pair_cmp old (a, b))) (none_pair (numbers one) a b)) (numbers name) (numbers desc)
          ∙ sym (ap (λ (b : Bool). cond b (Some at) (place_of old (numbers name) (numbers desc))) (and_false (bytes_eq one name)))
      by (Some one) (Some other) h i added = numbered one other (numbers one) (numbers other) refl refl (h one refl) (i other refl) added
