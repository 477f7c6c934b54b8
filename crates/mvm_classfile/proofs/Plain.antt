-- Formats that say nothing of places: what spells a value at one place spells it at any, and is the written form of it.
use Rattle.std.proofs.Common.{◌≡◌, ℕ, zero, suc, ◌+◌, ◌<◌, ◌^◌, Bool, true, false, not, ◌&&◌, List, [], ◌∷◌, ◌++◌, length, Some, refl, sym, ap, subst, ◌∙◌, append-nil, arith}
use Rattle.mvm_base.proofs.Bytes.{left_bytes, right_bytes}
use Rattle.mvm_base.specs.Bytes.{AreBytes}
use Rattle.std.specs.List.{flat_map}
use Rattle.std.proofs.lemmas.Nat.{be_bytes_2, be_bytes_4, be_bytes_8}
use Rattle.byteorder.specs.Numbers.{big_from-lt, big_number-reads_back, length-bytes_high_first}
use Rattle.mvm_base.specs.Endian.{big_number, big_bytes}
use Rattle.mvm_layout.specs.Format.{Format, bytes, number, given, followed, mapped, if_passing, passing, passing_at, spells_times, times, counted}
use Rattle.mvm_layout.specs.declared.fault.ClassFault.{ClassFault}
use Rattle.mvm_classfile.specs.Writing.{u1, u2, u4}

-- ---- tests

pub both_hold : (a b : Bool) → (a && b) ≡ true → (a ≡ true) × (b ≡ true)
both_hold true b h = (refl, h)
both_hold false b h = absurd cc

pub not_true : (b : Bool) → not b ≡ true → b ≡ false
not_true true h = absurd cc
not_true false h = refl

pub passes : {A : Type 0} (b : Bool) (x y : A) → if_passing b x ≡ Some y → x ≡ y
passes true x y e = cc
passes false x y e = absurd cc

-- ---- numbers

pub number_lt : (n x at : ℕ) (text : List ℕ) → AreBytes text → (number n).spells x at text → x < 256 ^ n
number_lt n x at text b s = subst (λ (k : ℕ). k < 256 ^ n) s.1 (big_from-lt 0 n text b)

pub number_again : (n x at : ℕ) → x < 256 ^ n → (number n).spells x at (big_bytes n x)
number_again n x at h =
    let e : big_number n (big_bytes n x ++ []) ≡ x = big_number-reads_back n x [] h in
    (length-bytes_high_first n x, rw append-nil at e)

written_1 : (text : List ℕ) → AreBytes text → length text ≡ 1 → text ≡ u1 (big_number 1 text)
written_1 [] b e = absurd (omega arith)
written_1 (x ∷ []) b e = let l : x < 256 = b 0 in ap (λ (k : ℕ). k ∷ []) (omega arith)
written_1 (x ∷ y ∷ text) b e = absurd (omega arith)

-- ---- formats

pub record Plain {A : Type 0} (F : Format A) (w : A → List ℕ) : Type 0 where
  pub moves : (x : A) (at other : ℕ) (text : List ℕ) → F.spells x at text → F.spells x other text
  pub written : (x : A) (at : ℕ) (text : List ℕ) → AreBytes text → F.spells x at text → text ≡ w x

pub plain_u1 : Plain (number 1) u1
plain_u1 = record { moves = λ x at other text s. s; written = λ x at text b s. written_1 text b s.0 ∙ ap u1 s.1 }

pub plain_u2 : Plain (number 2) u2
plain_u2 = record { moves = λ x at other text s. s; written = λ x at text b s. (let e : x ≡ big_number 2 text = sym s.1 in sym (be_bytes_2 text x s.0 b (omega (arith, e)))) }

pub plain_u4 : Plain (number 4) u4
plain_u4 = record { moves = λ x at other text s. s; written = λ x at text b s. (let e : x ≡ big_number 4 text = sym s.1 in sym (be_bytes_4 text x s.0 b (omega (arith, e)))) }

pub plain_u8 : Plain (number 8) (λ x. big_bytes 8 x)
plain_u8 = record { moves = λ x at other text s. s; written = λ x at text b s. (let e : x ≡ big_number 8 text = sym s.1 in sym (be_bytes_8 text x s.0 b (omega (arith, e)))) }

pub plain_bytes : (n : ℕ) → Plain (bytes n) (λ x. x)
plain_bytes n = record { moves = λ x at other text s. s; written = λ x at text b s. s.0 }

pub plain_given : {A : Type 0} (y : A) (w : A → List ℕ) → w y ≡ [] → Plain (given y) w
plain_given y w e = record { moves = λ x at other text s. s; written = λ x at text b s. s.1 ∙ sym e ∙ ap w (sym s.0) }

pub plain_followed : {A B : Type 0} (F : Format A) (G : A → Format B) (u : A → List ℕ) (v : A → B → List ℕ) → Plain F u → ((x : A) → Plain (G x) (v x)) → Plain (followed F G) (λ x. u x.0 ++ v x.0 x.1)
plain_followed F G u v f g = record {
  moves = λ x at other text s. (s.0, s.1, f.moves x.0 at other s.0 s.2, (g x.0).moves x.1 (at + length s.0) (other + length s.0) s.1 s.3, s.4);
  written = λ x at text b s. (
      let one = f.written x.0 at s.0 (left_bytes text s.0 s.1 s.4 b) s.2 in
      let two = (g x.0).written x.1 (at + length s.0) s.1 (right_bytes text s.0 s.1 s.4 b) s.3 in
      s.4 ∙ ap (λ (z : List ℕ). z ++ s.1) one ∙ ap (λ (z : List ℕ). u x.0 ++ z) two);
}

pub plain_mapped : {A B : Type 0} (h : A → B) (F : Format A) (u : A → List ℕ) (w : B → List ℕ) → Plain F u → ((x : A) (at : ℕ) (text : List ℕ) → AreBytes text → F.spells x at text → u x ≡ w (h x)) → Plain (mapped h F) w
plain_mapped h F u w f same = record {
  moves = λ y at other text s. (s.0, f.moves s.0 at other text s.1, s.2);
  written = λ y at text b s. f.written s.0 at text b s.1 ∙ same s.0 at text b s.1 ∙ ap w s.2;
}

pub plain_passing : {A : Type 0} (test : A → Bool) (fault : A → ClassFault) (F : Format A) (u : A → List ℕ) → Plain F u → Plain (passing test fault F) u
plain_passing test fault F u f = record {
  moves = λ y at other text s. (s.0, f.moves s.0 at other text s.1, s.2);
  written = λ y at text b s. f.written s.0 at text b s.1 ∙ ap u (passes (test s.0) s.0 y s.2);
}

pub plain_passing_at : {A : Type 0} (test : A → Bool) (fault : ℕ → ClassFault) (F : Format A) (u : A → List ℕ) → Plain F u → Plain (passing_at test fault F) u
plain_passing_at test fault F u f = record {
  moves = λ y at other text s. (s.0, f.moves s.0 at other text s.1, s.2);
  written = λ y at text b s. f.written s.0 at text b s.1 ∙ ap u (passes (test s.0) s.0 y s.2);
}

times_move : {A : Type 0} (F : Format A) (u : A → List ℕ) → Plain F u → (n : ℕ) (xs : List A) (at other : ℕ) (text : List ℕ) → spells_times F n xs at text → spells_times F n xs other text
times_move F u f zero xs at other text s = s
times_move F u f (suc n) [] at other text s = absurd s
times_move F u f (suc n) (x ∷ xs) at other text s =
    (s.0, s.1, f.moves x at other s.0 s.2, times_move F u f n xs (at + length s.0) (other + length s.0) s.1 s.3, s.4)

times_written : {A : Type 0} (F : Format A) (u : A → List ℕ) → Plain F u → (n : ℕ) (xs : List A) (at : ℕ) (text : List ℕ) → AreBytes text → spells_times F n xs at text → text ≡ flat_map u xs
times_written F u f zero xs at text b s = rw (s.0, s.1) refl
times_written F u f (suc n) [] at text b s = absurd s
times_written F u f (suc n) (x ∷ xs) at text b s =
    let one = f.written x at s.0 (left_bytes text s.0 s.1 s.4 b) s.2 in
    let two = times_written F u f n xs (at + length s.0) s.1 (right_bytes text s.0 s.1 s.4 b) s.3 in
    s.4 ∙ ap (λ (z : List ℕ). z ++ s.1) one ∙ ap (λ (z : List ℕ). u x ++ z) two

pub plain_times : {A : Type 0} (n : ℕ) (F : Format A) (u : A → List ℕ) → Plain F u → Plain (times n F) (λ xs. flat_map u xs)
plain_times n F u f = record { moves = λ xs at other text s. times_move F u f n xs at other text s; written = λ xs at text b s. times_written F u f n xs at text b s }

pub times_length : {A : Type 0} (F : Format A) (n : ℕ) (xs : List A) (at : ℕ) (text : List ℕ) → spells_times F n xs at text → length xs ≡ n
times_length F zero xs at text s = rw s.0 refl
times_length F (suc n) [] at text s = absurd s
times_length F (suc n) (x ∷ xs) at text s = let e = times_length F n xs (at + length s.0) s.1 s.3 in omega (arith, e)

pub plain_counted : {A : Type 0} (F : Format A) (u : A → List ℕ) → Plain F u → Plain (counted F) (λ xs. u2 (length xs) ++ flat_map u xs)
plain_counted F u f =
    plain_mapped (λ (x : ℕ × List _). x.1) (followed (number 2) (λ count. times count F)) (λ x. u2 x.0 ++ flat_map u x.1) (λ xs. u2 (length xs) ++ flat_map u xs)
    (plain_followed (number 2) (λ count. times count F) u2 (λ count xs. flat_map u xs) plain_u2 (λ count. plain_times count F u f))
    (λ x at text b s. ap (λ (n : ℕ). u2 n ++ flat_map u x.1) (sym (times_length F x.0 x.1 (at + length s.0) s.1 s.3)))

-- so many that two bytes count them
pub counted_lt : {A : Type 0} (F : Format A) (xs : List A) (at : ℕ) (text : List ℕ) → AreBytes text → (counted F).spells xs at text → length xs < 256 ^ 2
counted_lt F xs at text b s =
    let n = number_lt 2 s.0.0 at s.1.0 (left_bytes text s.1.0 s.1.1 s.1.4 b) s.1.2 in
    let e : length s.0.1 ≡ s.0.0 = times_length F s.0.0 s.0.1 (at + length s.1.0) s.1.1 s.1.3 in
    subst (λ (ys : List _). length ys < 256 ^ 2) s.2 (subst (λ (k : ℕ). k < 256 ^ 2) (sym e) n)
