-- What is read from a place on stands at the front of what was left, in the bytes that a line is assembled to.
use Rattle.std.proofs.Common.{◌≡◌, ℕ, ◌+◌, ◌<◌, ◌^◌, Bool, true, false, cond, ltb, List, [], ◌++◌, length, take, drop, Result, Ok, Err, refl, sym, ap, subst, ◌∙◌, append_assoc, length-append, arith}
use Rattle.std.specs.Prelude.{ℤ, FitsSigned}
use Rattle.std.specs.Int.{w8, w16, w32, cast_signed}
use Rattle.std.proofs.lemmas.Bool.{ltb-false}
use Rattle.std.proofs.lemmas.Int.{of_z-to_z}
use Rattle.std.proofs.lemmas.List.{take-append-drop, length-take-le}
use borrow.Author.Gap.{read_sfits}
use Rattle.mvm_base.specs.Answers.{◌>>=◌}
use Rattle.mvm_base.specs.Bytes.{AreBytes}
use Rattle.mvm_base.proofs.Bytes.{left_bytes, right_bytes}
use Rattle.mvm_base.specs.Endian.{big_number}
use Rattle.mvm_base.specs.Place.{Place, run, numbered}
use Rattle.mvm_layout.specs.Format.{number as of_bytes}
use Rattle.mvm_classfile.proofs.Plain.{Plain, number_lt, plain_u1, plain_u2, plain_u4}
use Rattle.mvm_insn.specs.Readers.{whole, bytes, number, signed}
use Rattle.mvm_insn.specs.declared.fault.InsnFault.{InsnFault}
use Rattle.mvm_listing.specs.Encoding.{u1, u2, u4, i1, i2, i4}

-- these bytes stand at the front of p, and q is behind them
pub record Front (p : Place) (text : List ℕ) (q : Place) : Type 0 where
  pub front : p.rest ≡ text ++ q.rest
  pub place : q.at ≡ p.at + length text
  pub left : AreBytes q.rest

pub front_on : (p q r : Place) (s t : List ℕ) → Front p s q → Front q t r → Front p (s ++ t) r
front_on p q r s t a b = record {
  front = a.front ∙ ap (λ (z : List ℕ). s ++ z) b.front ∙ sym (append_assoc s t r.rest);
  place = b.place ∙ omega (arith, a.place, length-append s t);
  left = b.left;
}

pub front_here : (p : Place) → AreBytes p.rest → Front p [] p
front_here p b = record { front = refl; place = omega arith; left = b }

-- ---- steps

abbrev pub done : {A : Type 0} → A → Result A InsnFault
done x = Ok x

pub ok_is : {A : Type 0} (x y : A) → done x ≡ done y → x ≡ y
ok_is x y e = cc

pub bound : {A B : Type 0} (r : Result A InsnFault) (f : A → Result B InsnFault) (y : B) → (r >>= f) ≡ Ok y → (x : A) × (r ≡ Ok x) × (f x ≡ Ok y)
bound (Ok x) f y e = (x, refl, e)
bound (Err fault) f y e = absurd cc

-- ---- bytes

pub record BytesRead (n : ℕ) (p : Place) (x : List ℕ × Place) : Type 0 where
  pub front : Front p x.0 x.1
  pub size : length x.0 ≡ n
  pub are : AreBytes x.0

pub bytes_read : (n : ℕ) (p : Place) (x : List ℕ × Place) → AreBytes p.rest → bytes n p ≡ Ok x → BytesRead n p x
unfolding run
bytes_read n p x b e = by (ltb (length p.rest) n) refl e
  where
    by : (c : Bool) → ltb (length p.rest) n ≡ c → whole (cond c (Err p.at) (Ok (take n p.rest, record { at = p.at + n; rest = drop n p.rest }))) ≡ Ok x → BytesRead n p x
    by true t u = absurd cc
    by false t u =
        let len : length (take n p.rest) ≡ n = length-take-le n p.rest (ltb-false _ _ t) in
        let split : p.rest ≡ take n p.rest ++ drop n p.rest = sym (take-append-drop n p.rest) in
        let made : BytesRead n p (take n p.rest, record { at = p.at + n; rest = drop n p.rest }) = record {
          front = record { front = split; place = omega (arith, len); left = right_bytes p.rest (take n p.rest) (drop n p.rest) split b };
          size = len;
          are = left_bytes p.rest (take n p.rest) (drop n p.rest) split b;
        } in
        subst (BytesRead n p) (ok_is _ x u) made

-- ---- numbers

pub record NumberRead (n : ℕ) (w : ℕ → List ℕ) (p : Place) (x : ℕ × Place) : Type 0 where
  pub front : Front p (w x.0) x.1
  pub low : x.0 < 256 ^ n

number_read : (n : ℕ) (w : ℕ → List ℕ) → Plain (of_bytes n) w → (p : Place) (x : ℕ × Place) → AreBytes p.rest → number n p ≡ Ok x → NumberRead n w p x
number_read n w plain p x b e = by (run n p) refl e
  where
    by : (r : Result (List ℕ × Place) ℕ) → run n p ≡ r → whole (numbered n r) ≡ Ok x → NumberRead n w p x
    by (Err at) h k = absurd cc
    by (Ok y) h k =
        let r = bytes_read n p y b (ap whole h) in
        let text : y.0 ≡ w (big_number n y.0) = plain.written (big_number n y.0) p.at y.0 r.are (r.size, refl) in
        let made : NumberRead n w p (big_number n y.0, y.1) = record {
          front = subst (λ (t : List ℕ). Front p t y.1) text r.front;
          low = number_lt n (big_number n y.0) p.at y.0 r.are (r.size, refl);
        } in
        subst (NumberRead n w p) (ok_is _ x k) made

pub u1_read : (p : Place) (x : ℕ × Place) → AreBytes p.rest → number 1 p ≡ Ok x → NumberRead 1 u1 p x
u1_read p x b e = number_read 1 u1 plain_u1 p x b e

pub u2_read : (p : Place) (x : ℕ × Place) → AreBytes p.rest → number 2 p ≡ Ok x → NumberRead 2 u2 p x
u2_read p x b e = number_read 2 u2 plain_u2 p x b e

pub u4_read : (p : Place) (x : ℕ × Place) → AreBytes p.rest → number 4 p ≡ Ok x → NumberRead 4 u4 p x
u4_read p x b e = number_read 4 u4 plain_u4 p x b e

pub i1_read : (p : Place) (x : ℤ × Place) → AreBytes p.rest → signed 1 w8 p ≡ Ok x → Front p (i1 x.0) x.1 × FitsSigned w8 x.0
i1_read p x b e =
    let r = bound (number 1 p) _ x e in
    let n = u1_read p r.0 b r.1 in
    let l : r.0.0 < 256 ^ 1 = n.low in
    let same : i1 (cast_signed w8 r.0.0) ≡ u1 r.0.0 = ap u1 (of_z-to_z w8 r.0.0 (omega arith)) in
    subst (λ (y : ℤ × Place). Front p (i1 y.0) y.1 × FitsSigned w8 y.0) (ok_is _ x r.2) (subst (λ (t : List ℕ). Front p t r.0.1) (sym same) n.front, read_sfits w8 r.0.0)

pub i2_read : (p : Place) (x : ℤ × Place) → AreBytes p.rest → signed 2 w16 p ≡ Ok x → Front p (i2 x.0) x.1 × FitsSigned w16 x.0
i2_read p x b e =
    let r = bound (number 2 p) _ x e in
    let n = u2_read p r.0 b r.1 in
    let l : r.0.0 < 256 ^ 2 = n.low in
    let same : i2 (cast_signed w16 r.0.0) ≡ u2 r.0.0 = ap u2 (of_z-to_z w16 r.0.0 (omega arith)) in
    subst (λ (y : ℤ × Place). Front p (i2 y.0) y.1 × FitsSigned w16 y.0) (ok_is _ x r.2) (subst (λ (t : List ℕ). Front p t r.0.1) (sym same) n.front, read_sfits w16 r.0.0)

pub i4_read : (p : Place) (x : ℤ × Place) → AreBytes p.rest → signed 4 w32 p ≡ Ok x → Front p (i4 x.0) x.1 × FitsSigned w32 x.0
i4_read p x b e =
    let r = bound (number 4 p) _ x e in
    let n = u4_read p r.0 b r.1 in
    let l : r.0.0 < 256 ^ 4 = n.low in
    let same : i4 (cast_signed w32 r.0.0) ≡ u4 r.0.0 = ap u4 (of_z-to_z w32 r.0.0 (omega arith)) in
    subst (λ (y : ℤ × Place). Front p (i4 y.0) y.1 × FitsSigned w32 y.0) (ok_is _ x r.2) (subst (λ (t : List ℕ). Front p t r.0.1) (sym same) n.front, read_sfits w32 r.0.0)
