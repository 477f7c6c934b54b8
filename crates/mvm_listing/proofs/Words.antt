-- The numbers of a switch, four bytes each, are its bytes.
use Rattle.std.proofs.Common.{◌≡◌, ℕ, zero, suc, ◌+◌, ◌*◌, ◌<◌, ◌≤◌, ◌^◌, List, [], ◌∷◌, ◌++◌, length, take, drop, refl, sym, ap, ◌∙◌, append_assoc, arith}
use Rattle.std.specs.Prelude.{flat_map, FitsSigned}
use Rattle.std.specs.Int.{w32, cast_signed}
use Rattle.std.specs.List.{range_with_len}
use Rattle.std.proofs.lemmas.Int.{of_z-to_z}
use Rattle.std.proofs.lemmas.List.{take-append-drop, length-take-le, length-drop}
use borrow.Author.Gap.{read_sfits}
use Rattle.byteorder.specs.Numbers.{big_from-append}
use Rattle.mvm_base.specs.Bytes.{AreBytes}
use Rattle.mvm_base.proofs.Bytes.{left_bytes, right_bytes}
use Rattle.mvm_base.specs.Endian.{big_number}
use Rattle.mvm_classfile.proofs.Plain.{number_lt, plain_u4}
use Rattle.mvm_insn.specs.Rows.{word}
use Rattle.mvm_listing.specs.Encoding.{u4, i4}

-- the first four bytes are those of the number in them
first_word : (text : List ℕ) → AreBytes text → 4 ≤ length text → i4 (cast_signed w32 (big_number 4 text)) ≡ take 4 text
first_word text b l =
    let t = take 4 text in
    let split : text ≡ t ++ drop 4 text = sym (take-append-drop 4 text) in
    let len : length t ≡ 4 = length-take-le 4 text l in
    let are : AreBytes t = left_bytes text t (drop 4 text) split b in
    let same : big_number 4 text ≡ big_number 4 t = ap (big_number 4) split ∙ big_from-append 4 t (drop 4 text) (omega (arith, len)) in
    let low : big_number 4 t < 256 ^ 4 = number_lt 4 (big_number 4 t) 0 t are (len, refl) in
    ap (λ (n : ℕ). i4 (cast_signed w32 n)) same ∙ ap u4 (of_z-to_z w32 (big_number 4 t) (omega arith)) ∙ sym (plain_u4.written (big_number 4 t) 0 t are (len, refl))

drop_none : (n : ℕ) → drop {A = ℕ} n [] ≡ []
drop_none zero = refl
drop_none (suc n) = refl

drop_more : (m k : ℕ) (text : List ℕ) → drop m (drop k text) ≡ drop (k + m) text
drop_more m zero text = ap (λ (n : ℕ). drop n text) (let e : m ≡ 0 + m = omega arith in e)
drop_more m (suc k) [] = drop_none m ∙ sym (drop_none (suc k + m))
drop_more m (suc k) (c ∷ cs) = drop_more m k cs ∙ ap (λ (n : ℕ). drop n (c ∷ cs)) (let e : suc (k + m) ≡ suc k + m = omega arith in e)

drop_bytes : (k : ℕ) (text : List ℕ) → AreBytes text → AreBytes (drop k text)
drop_bytes k text b = right_bytes text (take k text) (drop k text) (sym (take-append-drop k text)) b

-- the number at a place, and what follows
pub word_at : (text : List ℕ) (i : ℕ) → AreBytes text → 4 * i + 4 ≤ length text → i4 (word text i) ++ drop (4 * (i + 1)) text ≡ drop (4 * i) text
unfolding word
word_at text i b l =
    let d = drop (4 * i) text in
    let n = length-drop (4 * i) text in
    let long : 4 ≤ length d = omega arith in
    let e : drop 4 d ≡ drop (4 * (i + 1)) text = drop_more 4 (4 * i) text ∙ ap (λ (k : ℕ). drop k text) (let k : 4 * i + 4 ≡ 4 * (i + 1) = omega arith in k) in
    ap (λ (xs : List ℕ). xs ++ drop (4 * (i + 1)) text) (first_word d (drop_bytes (4 * i) text b) long) ∙ ap (λ (xs : List ℕ). take 4 d ++ xs) (sym e) ∙ take-append-drop 4 d

drop_all : (text : List ℕ) (n : ℕ) → length text ≡ n → drop n text ≡ []
drop_all [] zero e = refl
drop_all [] (suc n) e = refl
drop_all (c ∷ cs) zero e = absurd (omega arith)
drop_all (c ∷ cs) (suc n) e = drop_all cs n (omega arith)

-- one number for each place
pub words_again : (text : List ℕ) (a n : ℕ) → AreBytes text → length text ≡ 4 * (a + n) → flat_map (λ i. i4 (word text i)) (range_with_len a n) ≡ drop (4 * a) text
words_again text a zero b e = sym (drop_all text (4 * a) (omega arith))
words_again text a (suc n) b e =
    ap (λ (xs : List ℕ). i4 (word text a) ++ xs) (words_again text (a + 1) n b (omega arith)) ∙ word_at text a b (omega arith)

-- two numbers for each place
pub pairs_again : (text : List ℕ) (a n : ℕ) → AreBytes text → length text ≡ 8 * (a + n) → flat_map (λ i. i4 (word text (2 * i)) ++ i4 (word text (2 * i + 1))) (range_with_len a n) ≡ drop (8 * a) text
pairs_again text a zero b e = sym (drop_all text (8 * a) (omega arith))
pairs_again text a (suc n) b e =
    let one = word_at text (2 * a) b (omega arith) in
    let two = word_at text (2 * a + 1) b (omega arith) in
    let e8 : 8 * (a + 1) ≡ 4 * ((2 * a + 1) + 1) = omega arith in
    let e0 : 4 * (2 * a) ≡ 8 * a = omega arith in
    let more : flat_map (λ i. i4 (word text (2 * i)) ++ i4 (word text (2 * i + 1))) (range_with_len (a + 1) n) ≡ drop (4 * ((2 * a + 1) + 1)) text = pairs_again text (a + 1) n b (omega arith) ∙ ap (λ (k : ℕ). drop k text) e8 in
    ap (λ (xs : List ℕ). (i4 (word text (2 * a)) ++ i4 (word text (2 * a + 1))) ++ xs) more
    ∙ append_assoc (i4 (word text (2 * a))) (i4 (word text (2 * a + 1))) (drop (4 * ((2 * a + 1) + 1)) text)
    ∙ ap (λ (xs : List ℕ). i4 (word text (2 * a)) ++ xs) two ∙ one ∙ ap (λ (k : ℕ). drop k text) e0

pub word_fits : (text : List ℕ) (i : ℕ) → FitsSigned w32 (word text i)
unfolding word
word_fits text i = read_sfits w32 (big_number 4 (drop (4 * i) text))
