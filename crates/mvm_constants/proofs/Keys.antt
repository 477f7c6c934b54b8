-- Keys are the same where the test says so.
use Rattle.std.proofs.Common.{◌≡◌, ℕ, true, refl, sym, ap, ap₂, eqb-true, eq-eqb, ◌&&◌, true≢false, ◌==◌}
use Rattle.std.proofs.lemmas.Bool.{and_parts, and_from}
use Rattle.std.proofs.lemmas.Bool.Decides.{Decides-int_eq}
use Rattle.mvm_constants.specs.declared.key.Key.{Key}
use Rattle.mvm_constants.specs.declared.key.Key.TheVariants as keys
use Rattle.mvm_constants.specs.Index.{is_key}

pub key_same : (key other : Key) → is_key key other ≡ true → key ≡ other
key_same (keys.Class a) (keys.Class x) h = ap keys.Class (eqb-true a x h)
key_same (keys.Str a) (keys.Str x) h = ap keys.Str (eqb-true a x h)
key_same (keys.Integer a) (keys.Integer x) h = ap keys.Integer ((Decides-int_eq a x).0 h)
key_same (keys.Long a) (keys.Long x) h = ap keys.Long ((Decides-int_eq a x).0 h)
key_same (keys.Pair a b) (keys.Pair x y) h = let p = and_parts (a == x) (b == y) h in ap₂ keys.Pair (eqb-true a x p.0) (eqb-true b y p.1)
key_same (keys.Field a b c) (keys.Field x y z) h =
    let p = and_parts (a == x) (b == y && c == z) h in let q = and_parts (b == y) (c == z) p.1 in
    let d : a ≡ x = eqb-true a x p.0 in let e : b ≡ y = eqb-true b y q.0 in let f : c ≡ z = eqb-true c z q.1 in cc
key_same (keys.Method a b c) (keys.Method x y z) h =
    let p = and_parts (a == x) (b == y && c == z) h in let q = and_parts (b == y) (c == z) p.1 in
    let d : a ≡ x = eqb-true a x p.0 in let e : b ≡ y = eqb-true b y q.0 in let f : c ≡ z = eqb-true c z q.1 in cc
key_same (keys.InterfaceMethod a b c) (keys.InterfaceMethod x y z) h =
    let p = and_parts (a == x) (b == y && c == z) h in let q = and_parts (b == y) (c == z) p.1 in
    let d : a ≡ x = eqb-true a x p.0 in let e : b ≡ y = eqb-true b y q.0 in let f : c ≡ z = eqb-true c z q.1 in cc
key_same _ _ h = absurd (true≢false (sym h))

itself : (n : ℕ) → (n == n) ≡ true
itself n = eq-eqb n n refl

pub key_itself : (key : Key) → is_key key key ≡ true
key_itself (keys.Class a) = itself a
key_itself (keys.Str a) = itself a
key_itself (keys.Integer a) = (Decides-int_eq a a).1 refl
key_itself (keys.Long a) = (Decides-int_eq a a).1 refl
key_itself (keys.Pair a b) = and_from (a == a) (b == b) (itself a) (itself b)
key_itself (keys.Field a b c) = and_from (a == a) (b == b && c == c) (itself a) (and_from (b == b) (c == c) (itself b) (itself c))
key_itself (keys.Method a b c) = and_from (a == a) (b == b && c == c) (itself a) (and_from (b == b) (c == c) (itself b) (itself c))
key_itself (keys.InterfaceMethod a b c) = and_from (a == a) (b == b && c == c) (itself a) (and_from (b == b) (c == c) (itself b) (itself c))
