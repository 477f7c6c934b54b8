-- The parts of a list of bytes are lists of bytes.
use Rattle.std.proofs.Common.{◌≡◌, ℕ, zero, suc, ◌<◌, List, [], ◌∷◌, ◌++◌, subst, arith}
use Rattle.mvm_base.specs.Bytes.{AreBytes}

pub bytes_cons : (x : ℕ) (s : List ℕ) → x < 256 → AreBytes s → AreBytes (x ∷ s)
bytes_cons x s one more zero = one
bytes_cons x s one more (suc i) = more i

pub bytes_front : (s t : List ℕ) → AreBytes (s ++ t) → AreBytes s
bytes_front [] t h = λ i. omega arith
bytes_front (x ∷ s) t h = bytes_cons x s (h 0) (bytes_front s t (λ i. h (suc i)))

pub bytes_back : (s t : List ℕ) → AreBytes (s ++ t) → AreBytes t
bytes_back [] t h = h
bytes_back (x ∷ s) t h = bytes_back s t (λ i. h (suc i))

pub left_bytes : (text s t : List ℕ) → text ≡ s ++ t → AreBytes text → AreBytes s
left_bytes text s t e b = bytes_front s t (subst AreBytes e b)

pub right_bytes : (text s t : List ℕ) → text ≡ s ++ t → AreBytes text → AreBytes t
right_bytes text s t e b = bytes_back s t (subst AreBytes e b)
