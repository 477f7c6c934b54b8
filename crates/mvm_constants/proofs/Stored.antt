-- Maps by key, and by index.
use Rattle.std.proofs.Common.{◌≡◌, ℕ, Bool, true, false, cond, ◌&&◌, ◌==◌, List, [], ◌∷◌, ◌++◌, Option, Some, None, refl, sym, ap, ap₂, ◌∙◌, arith, unwrap_or, ne_eqb, if◌then◌else◌, ltb-true, ltb}
use Rattle.std.specs.BTreeMap.{get, get_by, is_at}
use Rattle.std.specs.Map.{lookup}
use Rattle.std.specs.Ordering.{nat_cmp, is_eq, ordering_then}
use Rattle.std.specs.declared.cmp.Ordering.{Ordering}
use Rattle.std.specs.declared.cmp.Ordering.TheVariants.{Less, Equal, Greater}
use Rattle.mvm_constants.specs.declared.key.Key.{Key}
use Rattle.mvm_constants.specs.declared.key.Key.TheVariants as keys
use Rattle.mvm_constants.specs.contracts.key.KeyOrd.TheImpl as order
use Rattle.mvm_constants.specs.Index.{is_key, found, Keyed, lower, Lowers, Waiting, waiting_for, Waits}

-- ---- orders

nat_same : (a x : ℕ) → is_eq (nat_cmp a x) ≡ (a == x)
nat_same a x = by (ltb a x) refl
  where
    by : (b : Bool) → ltb a x ≡ b → is_eq (cond b Less (cond (a == x) Equal Greater)) ≡ (a == x)
    by true h = sym (ne_eqb a x (λ e. absurd (omega (arith, ltb-true a x h, e))))
    by false h = last (a == x)
      where
        last : (b : Bool) → is_eq (cond b Equal Greater) ≡ b
        last true = refl
        last false = refl

then_same : (o p : Ordering) → is_eq (ordering_then o p) ≡ (is_eq o && is_eq p)
then_same Less p = refl
then_same Equal p = refl
then_same Greater p = refl

two_same : (a b x y : ℕ) → is_eq (ordering_then (nat_cmp a x) (nat_cmp b y)) ≡ (a == x && b == y)
two_same a b x y = then_same (nat_cmp a x) (nat_cmp b y) ∙ ap₂ (λ (p q : Bool). p && q) (nat_same a x) (nat_same b y)

three_same : (a b c x y z : ℕ) → is_eq (ordering_then (nat_cmp a x) (ordering_then (nat_cmp b y) (nat_cmp c z))) ≡ (a == x && (b == y && c == z))
three_same a b c x y z = then_same (nat_cmp a x) (ordering_then (nat_cmp b y) (nat_cmp c z)) ∙ ap₂ (λ (p q : Bool). p && q) (nat_same a x) (two_same b c y z)

cmp_is : (key other : Key) → is_at ((order.ghosts).cmp key) other ≡ is_key key other
cmp_is (keys.Class a) (keys.Class x) = nat_same a x
cmp_is (keys.Str a) (keys.Str x) = nat_same a x
cmp_is (keys.Integer a) (keys.Integer x) = refl
cmp_is (keys.Long a) (keys.Long x) = refl
cmp_is (keys.Pair a b) (keys.Pair x y) = two_same a b x y
cmp_is (keys.Field a b c) (keys.Field x y z) = three_same a b c x y z
cmp_is (keys.Method a b c) (keys.Method x y z) = three_same a b c x y z
cmp_is (keys.InterfaceMethod a b c) (keys.InterfaceMethod x y z) = three_same a b c x y z
cmp_is _ _ = refl

found_by : (key : Key) (es : List (Key × ℕ)) → lookup (is_at ((order.ghosts).cmp key)) es ≡ lookup (λ other. is_key key other) es
found_by key [] = refl
found_by key (e ∷ es) =
    ap (λ (b : Bool). cond b (Some e.1) (lookup (is_at ((order.ghosts).cmp key)) es)) (cmp_is key e.0)
    ∙ ap (λ (r : Option ℕ). cond (is_key key e.0) (Some e.1) r) (found_by key es)

-- what the map has under a key
pub found_is : (key : Key) (rows : Keyed) → get_by ((order.ghosts).cmp key) rows ≡ found key rows
found_is key rows = found_by key rows.entries

-- and where the lower of two indices is put under one
pub lowers_is : (old new : Keyed) (key : Key) (at index : ℕ) → index ≡ lower (found key old) at
    → ((other : Key) → get (order.ghosts).cmp new other ≡ cond (is_at ((order.ghosts).cmp key) other) (Some index) (get (order.ghosts).cmp old other))
    → Lowers old key at new
lowers_is old new key at index e h = λ other.
    sym (found_is other new) ∙ h other
    ∙ ap (λ (b : Bool). cond b (Some index) (get (order.ghosts).cmp old other)) (cmp_is key other)
    ∙ ap (λ (r : Option ℕ). cond (is_key key other) (Some index) r) (found_is other old)
    ∙ ap (λ (n : ℕ). cond (is_key key other) (Some n) (found other old)) e

-- ---- entries that wait

pub taken_out : (old new : Waiting) (index : ℕ) → ((other : ℕ) → get nat_cmp new other ≡ cond (is_at (nat_cmp index) other) None (get nat_cmp old other))
    → (other : ℕ) → waiting_for other new ≡ (if index == other then [] else waiting_for other old)
taken_out old new index h other =
    ap (λ (r : Option (List ℕ)). unwrap_or r []) (h other ∙ ap (λ (b : Bool). cond b None (get nat_cmp old other)) (nat_same index other))
    ∙ split (index == other) (get nat_cmp old other)
  where
    split : (b : Bool) (r : Option (List ℕ)) → unwrap_or (cond b None r) [] ≡ (if b then [] else unwrap_or r [])
    split true r = refl
    split false r = refl

pub waits_is : (old mid new : Waiting) (index at : ℕ) (entries : List ℕ) → entries ≡ waiting_for index old ++ at ∷ []
    → ((other : ℕ) → waiting_for other mid ≡ (if index == other then [] else waiting_for other old))
    → ((other : ℕ) → get nat_cmp new other ≡ cond (is_at (nat_cmp index) other) (Some entries) (get nat_cmp mid other))
    → Waits old index at new
waits_is old mid new index at entries e k h = λ other.
    ap (λ (r : Option (List ℕ)). unwrap_or r []) (h other ∙ ap (λ (b : Bool). cond b (Some entries) (get nat_cmp mid other)) (nat_same index other))
    ∙ split (index == other) (get nat_cmp mid other)
    ∙ ap (λ (xs : List ℕ). if index == other then entries else xs) (k other)
    ∙ again (index == other) [] (waiting_for other old)
    ∙ ap (λ (xs : List ℕ). if index == other then xs else waiting_for other old) e
  where
    split : (b : Bool) (r : Option (List ℕ)) → unwrap_or (cond b (Some entries) r) [] ≡ (if b then entries else unwrap_or r [])
    split true r = refl
    split false r = refl

    again : (b : Bool) (xs ys : List ℕ) → (if b then entries else (if b then xs else ys)) ≡ (if b then entries else ys)
    again true xs ys = refl
    again false xs ys = refl
