-- Values one after the other, as a loop reads them.
use Rattle.std.proofs.Common.{◌≡◌, ℕ, suc, ◌-◌, ◌+◌, ◌<◌, ◌==◌, Bool, List, [], ◌∷◌, ◌++◌, Result, Ok, Err, refl, sym, ap, ◌∙◌, append_assoc, arith}
use Rattle.std.proofs.lemmas.Bool.Decides.{nat_tests}
use Rattle.mvm_base.specs.Place.{Place}
use Rattle.mvm_base.specs.Answers.{◌>>=◌}
use Rattle.mvm_layout.specs.Format.{Format, read_times}
use Rattle.mvm_layout.specs.Entries.{takes_two, entry, items}
use Rattle.mvm_layout.specs.declared.fault.ClassFault.{ClassFault}
use Rattle.mvm_layout.specs.declared.parts.Item.{Item}

-- what was read before, and what is still read
abbrev pub with_front : {A : Type 0} → List A → Result (List A × Place) ClassFault → Result (List A × Place) ClassFault
with_front front read = read >>= λ x. Ok (front ++ x.0, x.1)

regroup : {A : Type 0} (front : List A) (n : A) (read : Result (List A × Place) ClassFault) → with_front front (read >>= λ x. Ok (n ∷ x.0, x.1)) ≡ with_front (front ++ n ∷ []) read
regroup front n (Ok x) = ap (λ (ns : List _). Ok (ns, x.1)) (simp append_assoc)
regroup front n (Err f) = refl

pub goes_on : {A : Type 0} (F : Format A) (front : List A) (count i : ℕ) (p : Place) (n : A) (after : Place) (total : Result (List A × Place) ClassFault) → i < count → F.read p ≡ Ok (n, after)
    → with_front front (read_times F (count - i) p) ≡ total → with_front (front ++ n ∷ []) (read_times F (count - (i + 1)) after) ≡ total
goes_on F front count i p n after total lt h so_far =
    let e : count - i ≡ suc (count - (i + 1)) = omega arith in
    let one : with_front front (read_times F (count - i) p) ≡ with_front (front ++ n ∷ []) (read_times F (count - (i + 1)) after) = rw (e, h) (regroup front n (read_times F (count - (i + 1)) after)) in
    sym one ∙ so_far

pub fails : {A : Type 0} (F : Format A) (front : List A) (count i : ℕ) (p : Place) (fault : ClassFault) (total : Result (List A × Place) ClassFault) → i < count → F.read p ≡ Err fault
    → with_front front (read_times F (count - i) p) ≡ total → total ≡ Err fault
fails F front count i p fault total lt h so_far =
    let e : count - i ≡ suc (count - (i + 1)) = omega arith in
    let one : with_front front (read_times F (count - i) p) ≡ Err fault = rw (e, h) refl in
    sym so_far ∙ one

-- ---- the entries of the constant pool

abbrev behind : Item → List Item × Place → Result ((Item × List Item) × Place) ClassFault
behind n y = Ok ((n, y.0), y.1)

abbrev in_one : (Item × List Item) × Place → Result (List Item × Place) ClassFault
in_one x = Ok (x.0.0 ∷ x.0.1, x.1)

regroup_entries : (front : List Item) (n : Item) (read : Result (List Item × Place) ClassFault) → with_front front ((read >>= behind n) >>= in_one) ≡ with_front (front ++ n ∷ []) read
regroup_entries front n (Ok x) = ap (λ (ns : List Item). Ok (ns, x.1)) (simp append_assoc)
regroup_entries front n (Err f) = refl

last_is : (count index : ℕ) → index < count → (index == (count - 1)) ≡ ((count - (index + 1)) == 0)
last_is count index lt = grind (arith, nat_tests)

pub entries_go_on : (is_upper : Bool) (front : List Item) (count index : ℕ) (p : Place) (n : Item) (after : Place) (total : Result (List Item × Place) ClassFault) → index < count
    → (entry is_upper index (index == (count - 1))).read p ≡ Ok (n, after)
    → with_front front ((items is_upper index (count - index)).read p) ≡ total → with_front (front ++ n ∷ []) ((items (takes_two n) (index + 1) (count - (index + 1))).read after) ≡ total
entries_go_on is_upper front count index p n after total lt h so_far =
    let e : count - index ≡ suc (count - (index + 1)) = omega arith in
    let there : (entry is_upper index ((count - (index + 1)) == 0)).read p ≡ Ok (n, after) = rw (← last_is count index lt) h in
    let one : with_front front ((items is_upper index (count - index)).read p) ≡ with_front (front ++ n ∷ []) ((items (takes_two n) (index + 1) (count - (index + 1))).read after) =
    rw (e, there) (regroup_entries front n ((items (takes_two n) (index + 1) (count - (index + 1))).read after)) in
    sym one ∙ so_far

pub entries_fail : (is_upper : Bool) (front : List Item) (count index : ℕ) (p : Place) (fault : ClassFault) (total : Result (List Item × Place) ClassFault) → index < count
    → (entry is_upper index (index == (count - 1))).read p ≡ Err fault
    → with_front front ((items is_upper index (count - index)).read p) ≡ total → total ≡ Err fault
entries_fail is_upper front count index p fault total lt h so_far =
    let e : count - index ≡ suc (count - (index + 1)) = omega arith in
    let there : (entry is_upper index ((count - (index + 1)) == 0)).read p ≡ Err fault = rw (← last_is count index lt) h in
    let one : with_front front ((items is_upper index (count - index)).read p) ≡ Err fault = rw (e, there) refl in
    sym so_far ∙ one
