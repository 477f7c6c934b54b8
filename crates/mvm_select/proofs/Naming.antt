-- A resolved method names what was looked for.
use Rattle.std.proofs.Common.{◌≡◌, ℕ, suc, ◌+◌, Bool, true, false, cond, List, [], ◌∷◌, Option, Some, None, refl, ap, ◌∙◌, arith}
use Rattle.std.specs.Prelude.{slice_get}
use Rattle.std.proofs.lemmas.Bool.{and_parts}
use Rattle.std.proofs.lemmas.Slice.Eq.{bytes_eq-Decides}
use Rattle.mvm_layout.specs.Pool.{text, is_text}
use Rattle.mvm_layout.specs.declared.parts.Item.{Item}
use Rattle.mvm_layout.specs.declared.parts.Member.{Member}
use Rattle.mvm_layout.specs.declared.parts.Parts.{Parts}
use Rattle.mvm_set.specs.Members.{is_member, member_from, method_at}
use Rattle.mvm_set.specs.declared.found.MethodAt.{MethodAt}
use Rattle.mvm_select.specs.Meaning.{IsAt}
use Rattle.mvm_select.specs.Told.{named_by, named_in, named_at, named}

text_is : (wanted : List ℕ) (found : Option (List ℕ)) → is_text wanted found ≡ true → found ≡ Some wanted
text_is wanted (Some found) e = ap (λ (units : List ℕ). Some units) ((bytes_eq-Decides found wanted).0 e)
text_is wanted None e = absurd cc

-- the member that was found
record MemberAt (at : ℕ) (pool : List Item) (name desc : List ℕ) (members : List Member) (index : ℕ) : Type 0 where
  place : ℕ
  member : Member
  is_index : index ≡ at + place
  is_there : slice_get members place ≡ Some member
  passes : is_member pool name desc member ≡ true

member_at : (at : ℕ) (pool : List Item) (name desc : List ℕ) (members : List Member) (index : ℕ) → member_from at pool name desc members ≡ Some index → MemberAt at pool name desc members index
member_at at pool name desc [] index e = absurd cc
member_at at pool name desc (one ∷ others) index e = by (is_member pool name desc one) refl e (member_at (at + 1) pool name desc others index)
  where
    by : (b : Bool) → is_member pool name desc one ≡ b → cond b (Some at) (member_from (at + 1) pool name desc others) ≡ Some index
        → (member_from (at + 1) pool name desc others ≡ Some index → MemberAt (at + 1) pool name desc others index) → MemberAt at pool name desc (one ∷ others) index
    by true p e next = let q : at ≡ index = cc in record { place = 0; member = one; is_index = omega (arith, q); is_there = refl; passes = p }
    by false p e next =
        let r = next e in
        let q = r.is_index in
        record { place = suc r.place; member = r.member; is_index = omega (arith, q); is_there = r.is_there; passes = r.passes }

named_file : (name desc : List ℕ) (base : Parts) (index : ℕ) → method_at name desc base ≡ Some index → named_in base (slice_get base.methods index) ≡ Some (record { holder = base; name = name; desc = desc })
unfolding method_at
named_file name desc base index e =
    let r = member_at 0 base.pool name desc base.methods index e in
    let q = r.is_index in
    let place : index ≡ r.place = omega (arith, q) in
    let texts = and_parts (is_text name (text base.pool r.member.name)) (is_text desc (text base.pool r.member.desc)) r.passes in
    ap (λ (at : ℕ). named_in base (slice_get base.methods at)) place
    ∙ ap (named_in base) r.is_there
    ∙ ap (λ (found : Option (List ℕ)). named_by base found (text base.pool r.member.desc)) (text_is name (text base.pool r.member.name) texts.0)
    ∙ ap (named_by base (Some name)) (text_is desc (text base.pool r.member.desc) texts.1)

pub named_law : (method : MethodAt) (name desc : List ℕ) (base : Parts) → IsAt name desc method.class base method.found → named method ≡ Some (record { holder = base; name = name; desc = desc })
unfolding named
named_law method name desc base a =
    ap (named_at method.found.index) a.is_holder
    ∙ ap (λ (parts : Parts). named_in parts (slice_get parts.methods method.found.index)) a.is_file
    ∙ named_file name desc base method.found.index a.is_index
