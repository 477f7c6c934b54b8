-- Shapes are found by their keys: a name more changes nothing, and a number more is that of one shape.
use Rattle.std.proofs.Common.{◌≡◌, ℕ, ◌+◌, ◌<◌, ◌≤◌, Bool, true, false, cond, ◌==◌, ne_eqb, List, Option, Some, None, refl, sym, ap, subst, ◌∙◌, arith}
use Rattle.std.specs.Prelude.{◌&&◌, IsSome}
use Rattle.std.specs.Option.{option_map, option_and_then}
use Rattle.std.specs.Str.{bytes_eq}
use Rattle.std.proofs.lemmas.Bool.Decides.{Decides-eqb, same_from_decides}
use Rattle.std.proofs.lemmas.Slice.Eq.{bytes_eq-Decides}
use Rattle.mvm_base.specs.declared.descriptor.Base.{Base}
use Rattle.mvm_base.specs.declared.descriptor.Base.TheVariants.{Boolean, Byte, Char, Short, Int, Long, Object}
use Rattle.mvm_base.specs.declared.descriptor.FieldShape.{FieldShape}
use Rattle.mvm_mirror.specs.Shapes.{is_base, is_shape}
use Rattle.mvm_mirror.specs.ShapeKeys.{base_key, key_of, is_base_key, is_key, found_by, AreSound}
use Rattle.mvm_mirror.specs.declared.shape_numbers.BaseKey.{BaseKey}
use Rattle.mvm_mirror.specs.declared.shape_numbers.BaseKey.TheVariants as keys
use Rattle.mvm_mirror.specs.declared.shape_numbers.ShapeKey.{ShapeKey}
use Rattle.mvm_mirror.proofs.Numbers.{same}
use Rattle.mvm_mirror.proofs.SameShape.{shape_same}

mapped : {A B : Type 0} (f : A → B) (r : Option A) (y : B) → option_map f r ≡ Some y → (x : A) × (r ≡ Some x) × (f x ≡ y)
mapped f (Some x) y e = (x, refl, cc)
mapped f None y e = absurd cc

-- ---- a base with a number, which only a class needs

abbrev keyed : Base → ℕ → BaseKey
keyed Boolean n = keys.Boolean
keyed Byte n = keys.Byte
keyed Char n = keys.Char
keyed Short n = keys.Short
keyed Int n = keys.Int
keyed Long n = keys.Long
keyed (Object name) n = keys.Object n

abbrev numbered : (List ℕ → Option ℕ) → Base → Option ℕ
numbered names (Object name) = names name
numbered names _ = Some 0

base_key_is : (names : List ℕ → Option ℕ) (b : Base) → base_key names b ≡ option_map (keyed b) (numbered names b)
base_key_is names Boolean = refl
base_key_is names Byte = refl
base_key_is names Char = refl
base_key_is names Short = refl
base_key_is names Int = refl
base_key_is names Long = refl
base_key_is names (Object name) = refl

abbrev with_dims : ℕ → BaseKey → ShapeKey
with_dims dims base = record { dims = dims; base = base }

-- the number that stands in the key of a shape
pub record HasKey (names : List ℕ → Option ℕ) (s : FieldShape) (k : ShapeKey) : Type 0 where
  pub number : ℕ
  pub named : numbered names s.base ≡ Some number
  pub is : with_dims s.dims (keyed s.base number) ≡ k

has_key : (names : List ℕ → Option ℕ) (s : FieldShape) (k : ShapeKey) → key_of names s ≡ Some k → HasKey names s k
has_key names s k e =
    let m = mapped (with_dims s.dims) (base_key names s.base) k e in
    let n = mapped (keyed s.base) (numbered names s.base) m.0 (sym (base_key_is names s.base) ∙ m.1) in
    record { number = n.0; named = n.1; is = ap (with_dims s.dims) n.2 ∙ m.2 }

-- ---- keys that are one are those of one shape

module _ (names : List ℕ → Option ℕ) (apart : (name other : List ℕ) (number : ℕ) → names name ≡ Some number → names other ≡ Some number → name ≡ other) where
  names_same : (x y : List ℕ) (n m : ℕ) → names x ≡ Some n → names y ≡ Some m → (n == m) ≡ bytes_eq x y
  names_same x y n m e f = same_from_decides (n == m) (bytes_eq x y) (to_name, to_number) (bytes_eq-Decides x y)
    where
      to_name : (n == m) ≡ true → x ≡ y
      to_name h = apart x y n e (f ∙ ap (λ (i : ℕ). Some i) (sym ((Decides-eqb n m).0 h)))

      to_number : x ≡ y → (n == m) ≡ true
      to_number h = let g : names y ≡ Some n = ap names (sym h) ∙ e in let i : n ≡ m = cc in (Decides-eqb n m).1 i

  bases_same : (b c : Base) (n m : ℕ) → numbered names b ≡ Some n → numbered names c ≡ Some m → is_base_key (keyed b n) (keyed c m) ≡ is_base b c
  bases_same (Object x) (Object y) n m e f = names_same x y n m e f
  bases_same Boolean Boolean n m e f = refl
  bases_same Byte Byte n m e f = refl
  bases_same Char Char n m e f = refl
  bases_same Short Short n m e f = refl
  bases_same Int Int n m e f = refl
  bases_same Long Long n m e f = refl
  bases_same _ _ n m e f = refl

  keys_same : (s t : FieldShape) (k j : ShapeKey) → HasKey names s k → HasKey names t j → is_key k j ≡ is_shape s t
  keys_same s t k j h i =
      sym (ap (is_key k) i.is) ∙ sym (ap (λ (l : ShapeKey). is_key l (with_dims t.dims (keyed t.base i.number))) h.is)
      ∙ ap (λ (b : Bool). (s.dims == t.dims) && b) (bases_same s.base t.base h.number i.number h.named i.named)

-- ---- a number more

module _ (names : List ℕ → Option ℕ) (next : ℕ) (under under' : ShapeKey → Option ℕ) (sound : AreSound names next under) (s : FieldShape) (k : ShapeKey) (n : ℕ) (has : key_of names s ≡ Some k)
    (updates : (j : ShapeKey) → under' j ≡ cond (is_key k j) (Some n) (under j)) where
  without_key : (t : FieldShape) (b : Bool) → key_of names t ≡ None → is_shape s t ≡ b → b ≡ false
  without_key t true e h = let g : key_of names t ≡ Some k = ap (key_of names) (sym (shape_same s t h)) ∙ has in absurd cc
  without_key t false e h = refl

  pub found_added : (t : FieldShape) → found_by names under' t ≡ cond (is_shape s t) (Some n) (found_by names under t)
  found_added t = by (key_of names t) refl
    where
      by : (r : Option ShapeKey) → key_of names t ≡ r → option_and_then under' r ≡ cond (is_shape s t) (Some n) (option_and_then under r)
      by (Some j) e = updates j ∙ ap (λ (b : Bool). cond b (Some n) (under j)) (keys_same names sound.apart s t k j (has_key names s k has) (has_key names t j e))
      by None e = sym (ap (λ (b : Bool). cond b (Some n) None) (without_key t (is_shape s t) e refl))

  -- the key of a shape is not that of a number which no name has
  other_base : (b : Base) (m i : ℕ) → numbered names b ≡ Some m → next ≤ i → is_base_key (keyed b m) (keys.Object i) ≡ false
  other_base Boolean m i e l = refl
  other_base Byte m i e l = refl
  other_base Char m i e l = refl
  other_base Short m i e l = refl
  other_base Int m i e l = refl
  other_base Long m i e l = refl
  other_base (Object x) m i e l = ne_eqb m i (λ h. omega (arith, sound.below x m e, h, l))

  and_false : (b : Bool) → (b && false) ≡ false
  and_false true = refl
  and_false false = refl

  other_key : (dims i : ℕ) → next ≤ i → is_key k (with_dims dims (keys.Object i)) ≡ false
  other_key dims i l =
      let h = has_key names s k has in
      sym (ap (λ (j : ShapeKey). is_key j (with_dims dims (keys.Object i))) h.is)
      ∙ ap (λ (b : Bool). (s.dims == dims) && b) (other_base s.base h.number i h.named l)
      ∙ and_false (s.dims == dims)

  pub sound_added : AreSound names next under'
  sound_added = record {
    below = sound.below;
    apart = sound.apart;
    unused =
        λ dims i l. updates (with_dims dims (keys.Object i))
        ∙ ap (λ (b : Bool). cond b (Some n) (under (with_dims dims (keys.Object i)))) (other_key dims i l)
        ∙ sound.unused dims i l;
  }

-- ---- a name more

module _ (names names' : List ℕ → Option ℕ) (next : ℕ) (under : ShapeKey → Option ℕ) (sound : AreSound names next under) (name : List ℕ) (fresh : names name ≡ None)
    (updates : (other : List ℕ) → names' other ≡ cond (bytes_eq name other) (Some next) (names other)) where
  pub found_named : (t : FieldShape) → found_by names' under t ≡ found_by names under t
  found_named t = by t.base
    where
      class : (x : List ℕ) (b : Bool) → bytes_eq name x ≡ b
          → option_and_then under (option_map (with_dims t.dims) (option_map keys.Object (cond b (Some next) (names x)))) ≡ option_and_then under (option_map (with_dims t.dims) (option_map keys.Object (names x)))
      class x true h =
          let none : names x ≡ None = ap names (sym (same name x h)) ∙ fresh in
          sound.unused t.dims next (omega arith) ∙ sym (ap (λ (r : Option ℕ). option_and_then under (option_map (with_dims t.dims) (option_map keys.Object r))) none)
      class x false h = refl

      by : (b : Base) → option_and_then under (option_map (with_dims t.dims) (base_key names' b)) ≡ option_and_then under (option_map (with_dims t.dims) (base_key names b))
      by Boolean = refl
      by Byte = refl
      by Char = refl
      by Short = refl
      by Int = refl
      by Long = refl
      by (Object x) = ap (λ (r : Option ℕ). option_and_then under (option_map (with_dims t.dims) (option_map keys.Object r))) (updates x) ∙ class x (bytes_eq name x) refl

  pub name_known : IsSome (names' name)
  name_known = subst IsSome (sym (updates name ∙ ap (λ (b : Bool). cond b (Some next) (names name)) ((bytes_eq-Decides name name).1 refl))) refl

  below : (x : List ℕ) (m : ℕ) (b : Bool) → cond b (Some next) (names x) ≡ Some m → m < next + 1
  below x m true e = let h : next ≡ m = cc in omega (arith, h)
  below x m false e = omega (arith, sound.below x m e)

  apart : (x y : List ℕ) (m : ℕ) (a b : Bool) → bytes_eq name x ≡ a → bytes_eq name y ≡ b → cond a (Some next) (names x) ≡ Some m → cond b (Some next) (names y) ≡ Some m → x ≡ y
  apart x y m true true h i e f = sym (same name x h) ∙ same name y i
  apart x y m true false h i e f = let g : next ≡ m = cc in absurd (omega (arith, g, sound.below y m f))
  apart x y m false true h i e f = let g : next ≡ m = cc in absurd (omega (arith, g, sound.below x m e))
  apart x y m false false h i e f = sound.apart x y m e f

  pub sound_named : AreSound names' (next + 1) under
  sound_named = record {
    below = λ x m e. below x m (bytes_eq name x) (sym (updates x) ∙ e);
    apart = λ x y m e f. apart x y m (bytes_eq name x) (bytes_eq name y) refl refl (sym (updates x) ∙ e) (sym (updates y) ∙ f);
    unused = λ dims i l. sound.unused dims i (omega (arith, l));
  }
