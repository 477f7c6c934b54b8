-- The tests of shapes, of keys and of their order say what is one.
use Rattle.std.proofs.Common.{◌≡◌, ℕ, Bool, true, false, cond, ◌&&◌, ◌==◌, ltb, ltb-true, ne_eqb, eqb-true, eq-eqb, true≢false, List, [], ◌∷◌, Option, Some, refl, sym, ap, ap₂, ◌∙◌, arith}
use Rattle.std.specs.Prelude.{◌↔◌}
use Rattle.std.specs.BTreeMap.{get, get_by, is_at}
use Rattle.std.specs.Map.{lookup}
use Rattle.std.specs.Ordering.{nat_cmp, is_eq, ordering_then}
use Rattle.std.specs.declared.cmp.Ordering.{Ordering}
use Rattle.std.specs.declared.cmp.Ordering.TheVariants.{Less, Equal, Greater}
use Rattle.std.specs.BTreeMap.{BTreeMap}
use Rattle.std.proofs.lemmas.Bool.{and_parts, and_from}
use Rattle.mvm_base.specs.declared.descriptor.Base.{Base}
use Rattle.mvm_base.specs.declared.descriptor.Base.TheVariants.{Boolean, Byte, Char, Short, Int, Long, Object}
use Rattle.mvm_base.specs.declared.descriptor.FieldShape.{FieldShape}
use Rattle.mvm_mirror.specs.Shapes.{is_base, is_shape}
use Rattle.mvm_mirror.specs.ShapeKeys.{is_base_key, is_key, number_under}
use Rattle.mvm_mirror.specs.declared.shape_numbers.BaseKey.{BaseKey}
use Rattle.mvm_mirror.specs.declared.shape_numbers.BaseKey.TheVariants as keys
use Rattle.mvm_mirror.specs.declared.shape_numbers.ShapeKey.{ShapeKey}
use Rattle.mvm_mirror.specs.contracts.shape_numbers.BaseKeyOrd.TheImpl as base_order
use Rattle.mvm_mirror.specs.contracts.shape_numbers.ShapeKeyOrd.TheImpl as order
use Rattle.mvm_mirror.proofs.Numbers.{same, itself}

-- ---- shapes

base_same : (b c : Base) → is_base b c ≡ true → b ≡ c
base_same Boolean Boolean h = refl
base_same Byte Byte h = refl
base_same Char Char h = refl
base_same Short Short h = refl
base_same Int Int h = refl
base_same Long Long h = refl
base_same (Object x) (Object y) h = ap Object (same x y h)
base_same _ _ h = absurd (true≢false (sym h))

base_itself : (b : Base) → is_base b b ≡ true
base_itself Boolean = refl
base_itself Byte = refl
base_itself Char = refl
base_itself Short = refl
base_itself Int = refl
base_itself Long = refl
base_itself (Object x) = itself x

pub shape_same : (s t : FieldShape) → is_shape s t ≡ true → s ≡ t
shape_same s t h = let p = and_parts (s.dims == t.dims) (is_base s.base t.base) h in ap₂ made (eqb-true s.dims t.dims p.0) (base_same s.base t.base p.1)
  where
    made : ℕ → Base → FieldShape
    made dims base = record { dims = dims; base = base }

pub shape_itself : (s : FieldShape) → is_shape s s ≡ true
shape_itself s = and_from (s.dims == s.dims) (is_base s.base s.base) (eq-eqb s.dims s.dims refl) (base_itself s.base)

pub shape_told : (s t : FieldShape) → (is_shape s t ≡ true) ↔ (s ≡ t)
shape_told s t = (shape_same s t, λ e. ap (is_shape s) (sym e) ∙ shape_itself s)

-- ---- the order of keys

nat_same : (a x : ℕ) → is_eq (nat_cmp a x) ≡ (a == x)
nat_same a x = by (ltb a x) refl
  where
    by : (b : Bool) → ltb a x ≡ b → is_eq (cond b Less (cond (a == x) Equal Greater)) ≡ (a == x)
    by true h = sym (ne_eqb a x (λ e. absurd (omega (arith, ltb-true a x h, e))))
    by false h = last (a == x)
      where
        last : (b : Bool) → is_eq (cond b Equal Greater) ≡ b
        last true = refl
        last false = refl

then_same : (o p : Ordering) → is_eq (ordering_then o p) ≡ (is_eq o && is_eq p)
then_same Less p = refl
then_same Equal p = refl
then_same Greater p = refl

base_order_is : (b c : BaseKey) → is_at ((base_order.ghosts).cmp b) c ≡ is_base_key b c
base_order_is (keys.Object a) (keys.Object x) = nat_same a x
base_order_is keys.Boolean keys.Boolean = refl
base_order_is keys.Byte keys.Byte = refl
base_order_is keys.Char keys.Char = refl
base_order_is keys.Short keys.Short = refl
base_order_is keys.Int keys.Int = refl
base_order_is keys.Long keys.Long = refl
base_order_is _ _ = refl

pub order_is : (k j : ShapeKey) → is_at ((order.ghosts).cmp k) j ≡ is_key k j
order_is k j = then_same (nat_cmp k.dims j.dims) ((base_order.ghosts).cmp k.base j.base) ∙ ap₂ (λ (p q : Bool). p && q) (nat_same k.dims j.dims) (base_order_is k.base j.base)

under_by : (k : ShapeKey) (es : List (ShapeKey × ℕ)) → lookup (is_at ((order.ghosts).cmp k)) es ≡ lookup (λ j. is_key k j) es
under_by k [] = refl
under_by k (e ∷ es) =
    ap (λ (b : Bool). cond b (Some e.1) (lookup (is_at ((order.ghosts).cmp k)) es)) (order_is k e.0)
    ∙ ap (λ (r : Option ℕ). cond (is_key k e.0) (Some e.1) r) (under_by k es)

-- what a map has under a key
pub under_is : (k : ShapeKey) (numbers : BTreeMap ShapeKey ℕ) → get_by ((order.ghosts).cmp k) numbers ≡ number_under numbers k
under_is k numbers = under_by k numbers.entries

-- and where a key has a number more
pub under_added : (old new : BTreeMap ShapeKey ℕ) (k : ShapeKey) (n : ℕ)
    → ((j : ShapeKey) → get (order.ghosts).cmp new j ≡ cond (is_at ((order.ghosts).cmp k) j) (Some n) (get (order.ghosts).cmp old j))
    → (j : ShapeKey) → number_under new j ≡ cond (is_key k j) (Some n) (number_under old j)
under_added old new k n h j =
    sym (under_is j new) ∙ h j
    ∙ ap (λ (b : Bool). cond b (Some n) (get (order.ghosts).cmp old j)) (order_is k j)
    ∙ ap (λ (r : Option ℕ). cond (is_key k j) (Some n) r) (under_is j old)
