-- A class of which each part is kept under its name is whole.
use Rattle.std.proofs.Common.{◌≡◌, ℕ, true, List, [], ◌∷◌, Option, Some, None, refl, sym, ap, ◌∙◌, inl, inr}
use Rattle.std.specs.Prelude.{option_and_then}
use Rattle.std.proofs.lemmas.Slice.Eq.{bytes_eq-Decides}
use Rattle.mvm_shape.specs.Members.{same_text}
use Rattle.mvm_set.specs.Family.{Family, name, visited}
use Rattle.mvm_set.specs.Once.{AreKept}
use Rattle.mvm_select.specs.Families.{Stands, IsOneAtMost, class_above, IsWhole}
use Rattle.mvm_select.proofs.Lists.{In}
use Rattle.mvm_select.proofs.Trees.{stands_in}
use Rattle.mvm_select.proofs.Walks.{same_names}

kept_in : (kept : List ℕ → Option Family) (xs : List Family) (x : Family) → AreKept name kept xs → In xs x → option_and_then kept (name x) ≡ Some x
kept_in kept [] x k h = absurd h
kept_in kept (y ∷ ys) x k (inl e) = ap (λ (z : Family). option_and_then kept (name z)) (sym e) ∙ k.0 ∙ ap (λ (z : Family). Some z) e
kept_in kept (y ∷ ys) x k (inr h) = kept_in kept ys x k.1 h

has_name : (kept : List ℕ → Option Family) (x : Family) (n : Option (List ℕ)) → option_and_then kept n ≡ Some x → same_text n n ≡ true
has_name kept x (Some n) e = (bytes_eq-Decides n n).1 refl
has_name kept x None e = absurd cc

one_of_name : (kept : List ℕ → Option Family) (x y : Family) (n m : Option (List ℕ)) → n ≡ m → option_and_then kept n ≡ Some x → option_and_then kept m ≡ Some y → x ≡ y
one_of_name kept x y n m e a b = let q : Some x ≡ Some y = sym a ∙ ap (option_and_then kept) e ∙ b in cc

pub whole_law : (kept : List ℕ → Option Family) (class : Family) → AreKept name kept (visited class) → ((one : Family) → Stands class one → IsOneAtMost (class_above one)) → IsWhole class
whole_law kept class k single = record {
  single = single;
  named = λ x s. has_name kept x (name x) (kept_in kept (visited class) x k (stands_in class x s));
  alike = λ x y s t e. one_of_name kept x y (name x) (name y) (same_names (name x) (name y) e) (kept_in kept (visited class) x k (stands_in class x s)) (kept_in kept (visited class) y k (stands_in class y t));
}
