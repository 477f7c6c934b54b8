-- The pieces of a code, from one place on to the next.
use Rattle.std.proofs.Common.{◌≡◌, ℕ, zero, suc, ◌+◌, ◌-◌, ◌<◌, ◌≤◌, ◌^◌, Bool, true, false, cond, List, [], ◌∷◌, ◌++◌, length, take, drop, Option, Some, None, Ok, Err, refl, sym, ap, subst, ◌∙◌, append_assoc, arith}
use Rattle.std.proofs.lemmas.List.{length-take-le, length-drop}
use Rattle.mvm_base.specs.Bytes.{AreBytes}
use Rattle.mvm_insn.specs.Insns.{Read, located, read_at, insn}
use Rattle.mvm_insn.specs.declared.fault.InsnFault.{InsnFault}
use Rattle.mvm_insn.specs.declared.insn.At.{At}
use Rattle.mvm_insn.proofs.Inside.{insn-inside}
use Rattle.mvm_statement.specs.declared.instruction.Instruction.{Instruction as Line}
use Rattle.mvm_listing.specs.declared.piece.Piece.{Piece}
use Rattle.mvm_listing.specs.declared.piece.Piece.TheVariants.{Own}
use Rattle.mvm_listing.specs.Disassembly.{Decoder, decoded, standard, line_of, byte_pieces, behind_first, chunk, pieces}
use Rattle.mvm_listing.specs.Laws.{bytes_of, is_usual}
use Rattle.mvm_listing.proofs.Mnemonics.{same_usual}
use Rattle.mvm_disassembler.specs.Steps.{pieces_from}

decoded_is : (at : ℕ) (r : Read) (x : At) → located r ≡ Ok x → decoded at r ≡ Some (line_of x.insn, x.next - at - 1)
decoded_is at (Ok y) x e = let same : record { insn = y.0; next = y.1.at } ≡ x = cc in ap (λ (a : At). Some (line_of a.insn, a.next - at - 1)) same
decoded_is at (Err fault) x e = absurd cc

undecoded : (at : ℕ) (r : Read) (fault : InsnFault) → located r ≡ Err fault → decoded at r ≡ None
undecoded at (Ok y) fault e = absurd cc
undecoded at (Err f) fault e = refl

found_is : (code : List ℕ) (at : ℕ) (x : At) → insn code at ≡ Ok x → standard at (drop at code) ≡ Some (line_of x.insn, x.next - at - 1)
unfolding insn
found_is code at x e = decoded_is at (read_at at (record { at = at; rest = drop at code })) x e

none_is : (code : List ℕ) (at : ℕ) (fault : InsnFault) → insn code at ≡ Err fault → standard at (drop at code) ≡ None
unfolding insn
none_is code at fault e = undecoded at (read_at at (record { at = at; rest = drop at code })) fault e

-- an instruction in its usual spelling is one piece, and any other its bytes
chunk_is : (code : List ℕ) (at : ℕ) (x : At) → AreBytes code → length code < 2 ^ 32 → insn code at ≡ Ok x
    → chunk (standard at (drop at code)) at (bytes_of code at x) ≡ cond (is_usual at x.insn (bytes_of code at x)) ((at, Own (line_of x.insn)) ∷ []) (byte_pieces at (bytes_of code at x))
chunk_is code at x b small e =
    let found = found_is code at x e in
    let same = same_usual code at x b small e in
    ap (λ (f : Option (Line × ℕ)). chunk f at (bytes_of code at x)) found ∙ ap (λ (t : Bool). cond t ((at, Own (line_of x.insn)) ∷ []) (byte_pieces at (bytes_of code at x))) same

drop_none : {A : Type 0} (k : ℕ) → drop {A = A} k [] ≡ []
drop_none zero = refl
drop_none (suc k) = refl

drop_more : {A : Type 0} (n m : ℕ) (xs : List A) → drop m (drop n xs) ≡ drop (n + m) xs
drop_more zero m xs = ap (λ (k : ℕ). drop k xs) (let e : m ≡ zero + m = omega arith in e)
drop_more (suc n) m [] = drop_none m ∙ sym (drop_none (suc n + m))
drop_more (suc n) m (x ∷ xs) = drop_more n m xs ∙ ap (λ (k : ℕ). drop k (x ∷ xs)) (let e : suc (n + m) ≡ suc n + m = omega arith in e)

-- the first piece or pieces, and those behind
piece_more : (decode : Decoder) (n at next k : ℕ) (b : ℕ) (bs : List ℕ) → behind_first (decode at (b ∷ bs)) ≡ k → next ≡ at + 1 + k → k ≤ length bs
    → pieces decode (suc n) at (b ∷ bs) ≡ chunk (decode at (b ∷ bs)) at (take (next - at) (b ∷ bs)) ++ pieces decode n next (drop k bs)
piece_more decode n at next k b bs e p l =
    let size : length (take k bs) ≡ k = length-take-le k bs l in
    let stop : next - at ≡ suc k = omega (arith, p) in
    let place : at + suc (length (take k bs)) ≡ next = omega (arith, p, size) in
    let text : take (next - at) (b ∷ bs) ≡ b ∷ take k bs = ap (λ (m : ℕ). take m (b ∷ bs)) stop in
    rw (e, place, text) refl

front_at : (at : ℕ) (code : List ℕ) → at < length code → (b : ℕ) × (drop at code ≡ b ∷ drop (suc at) code)
front_at at [] l = absurd (omega arith)
front_at zero (x ∷ xs) l = (x, refl)
front_at (suc at) (x ∷ xs) l = front_at at xs (omega arith)

pieces_more : (decode : Decoder) (n at next : ℕ) (code : List ℕ) → at < length code → next ≡ at + 1 + behind_first (decode at (drop at code)) → next ≤ length code
    → pieces decode (suc n) at (drop at code) ≡ chunk (decode at (drop at code)) at (take (next - at) (drop at code)) ++ pieces decode n next (drop next code)
pieces_more decode n at next code l p q =
    let f = front_at at code l in
    let bs = drop (suc at) code in
    let k = behind_first (decode at (f.0 ∷ bs)) in
    let place : next ≡ at + 1 + k = p ∙ ap (λ (t : List ℕ). at + 1 + behind_first (decode at t)) f.1 in
    let size : length bs ≡ length code - suc at = length-drop (suc at) code in
    let rest : drop k bs ≡ drop next code = drop_more (suc at) k code ∙ ap (λ (m : ℕ). drop m code) (let e : suc at + k ≡ next = omega (arith, place) in e) in
    let short : k ≤ length bs = omega (arith, place, size, q) in
    subst (λ (t : List ℕ). pieces decode (suc n) at t ≡ chunk (decode at t) at (take (next - at) t) ++ pieces decode n next (drop next code)) (sym f.1)
    (piece_more decode n at next k f.0 bs refl place short ∙ ap (λ (t : List ℕ). chunk (decode at (f.0 ∷ bs)) at (take (next - at) (f.0 ∷ bs)) ++ pieces decode n next t) rest)

-- as many pieces as there can be are enough
enough : (decode : Decoder) (n m at : ℕ) (bytes : List ℕ) → length bytes ≤ n → length bytes ≤ m → pieces decode n at bytes ≡ pieces decode m at bytes
enough decode zero zero at bytes l k = refl
enough decode zero (suc m) at [] l k = refl
enough decode zero (suc m) at (b ∷ bs) l k = absurd (omega arith)
enough decode (suc n) zero at [] l k = refl
enough decode (suc n) zero at (b ∷ bs) l k = absurd (omega arith)
enough decode (suc n) (suc m) at [] l k = refl
enough decode (suc n) (suc m) at (b ∷ bs) l k =
    let behind = behind_first (decode at (b ∷ bs)) in
    let size : length (drop behind bs) ≡ length bs - behind = length-drop behind bs in
    ap (λ (t : List (ℕ × Piece)). chunk (decode at (b ∷ bs)) at (b ∷ take behind bs) ++ t) (enough decode n m (at + length (b ∷ take behind bs)) (drop behind bs) (omega (arith, size, l)) (omega (arith, size, k)))

from_chunk : (code : List ℕ) (at next : ℕ) → at < length code → next ≡ at + 1 + behind_first (standard at (drop at code)) → next ≤ length code
    → pieces_from code at ≡ chunk (standard at (drop at code)) at (take (next - at) (drop at code)) ++ pieces_from code next
from_chunk code at next l p q =
    let n = length (drop (suc at) code) in
    let size : length (drop at code) ≡ suc n = ap length (front_at at code l).1 in
    let rest : n ≡ length code - suc at = length-drop (suc at) code in
    let left : length (drop next code) ≡ length code - next = length-drop next code in
    let low : length (drop next code) ≤ n = omega (arith, rest, left, p) in
    ap (λ (k : ℕ). pieces standard k at (drop at code)) size ∙ pieces_more standard n at next code l p q
    ∙ ap (λ (t : List (ℕ × Piece)). chunk (standard at (drop at code)) at (take (next - at) (drop at code)) ++ t) (enough standard n (length (drop next code)) next (drop next code) low (omega arith))

-- an instruction by its line or byte by byte, and what follows
from_insn : (code : List ℕ) (at : ℕ) (x : At) → AreBytes code → length code < 2 ^ 32 → at < length code → insn code at ≡ Ok x
    → pieces_from code at ≡ cond (is_usual at x.insn (bytes_of code at x)) ((at, Own (line_of x.insn)) ∷ []) (byte_pieces at (bytes_of code at x)) ++ pieces_from code x.next
from_insn code at x b small l e =
    let found = found_is code at x e in
    let inside = insn-inside code at x e in
    let behind : behind_first (standard at (drop at code)) ≡ x.next - at - 1 = ap behind_first found in
    let place : x.next ≡ at + 1 + behind_first (standard at (drop at code)) = omega (arith, behind, inside.0) in
    from_chunk code at x.next l place inside.1 ∙ ap (λ (t : List (ℕ × Piece)). t ++ pieces_from code x.next) (chunk_is code at x b small e)

-- a byte at which no instruction stands, and what follows
from_byte : (code : List ℕ) (at : ℕ) (fault : InsnFault) → at < length code → insn code at ≡ Err fault
    → pieces_from code at ≡ byte_pieces at (take 1 (drop at code)) ++ pieces_from code (at + 1)
from_byte code at fault l e =
    let none = none_is code at fault e in
    let behind : behind_first (standard at (drop at code)) ≡ 0 = ap behind_first none in
    let place : at + 1 ≡ at + 1 + behind_first (standard at (drop at code)) = omega (arith, behind) in
    let one : at + 1 - at ≡ 1 = omega arith in
    from_chunk code at (at + 1) l place (omega (arith, l))
    ∙ ap (λ (f : Option (Line × ℕ)). chunk f at (take (at + 1 - at) (drop at code)) ++ pieces_from code (at + 1)) none
    ∙ ap (λ (k : ℕ). byte_pieces at (take k (drop at code)) ++ pieces_from code (at + 1)) one

-- ---- pieces that are added

pub by_line : (code : List ℕ) (at : ℕ) (x : At) (out : List (ℕ × Piece)) → AreBytes code → length code < 2 ^ 32 → at < length code → Ok x ≡ insn code at → is_usual at x.insn (bytes_of code at x) ≡ true
    → (out ++ (at, Own (line_of x.insn)) ∷ []) ++ pieces_from code x.next ≡ out ++ pieces_from code at
by_line code at x out b small l e u =
    let all = from_insn code at x b small l (sym e) in
    append_assoc out ((at, Own (line_of x.insn)) ∷ []) (pieces_from code x.next)
    ∙ ap (λ (t : List (ℕ × Piece)). out ++ t) (sym (all ∙ ap (λ (c : Bool). cond c ((at, Own (line_of x.insn)) ∷ []) (byte_pieces at (bytes_of code at x)) ++ pieces_from code x.next) u))

pub by_bytes : (code : List ℕ) (at : ℕ) (x : At) (out : List (ℕ × Piece)) → AreBytes code → length code < 2 ^ 32 → at < length code → Ok x ≡ insn code at → is_usual at x.insn (bytes_of code at x) ≡ false
    → (out ++ byte_pieces at (bytes_of code at x)) ++ pieces_from code x.next ≡ out ++ pieces_from code at
by_bytes code at x out b small l e u =
    let all = from_insn code at x b small l (sym e) in
    append_assoc out (byte_pieces at (bytes_of code at x)) (pieces_from code x.next)
    ∙ ap (λ (t : List (ℕ × Piece)). out ++ t) (sym (all ∙ ap (λ (c : Bool). cond c ((at, Own (line_of x.insn)) ∷ []) (byte_pieces at (bytes_of code at x)) ++ pieces_from code x.next) u))

pub by_byte : (code : List ℕ) (at : ℕ) (fault : InsnFault) (out : List (ℕ × Piece)) → at < length code → Err fault ≡ insn code at
    → (out ++ byte_pieces at (take 1 (drop at code))) ++ pieces_from code (at + 1) ≡ out ++ pieces_from code at
by_byte code at fault out l e =
    append_assoc out (byte_pieces at (take 1 (drop at code))) (pieces_from code (at + 1)) ∙ ap (λ (t : List (ℕ × Piece)). out ++ t) (sym (from_byte code at fault l (sym e)))

-- an instruction ends behind its place, inside the code
pub insn_behind : (code : List ℕ) (at : ℕ) (x : At) → Ok x ≡ insn code at → at < x.next
insn_behind code at x e = (insn-inside code at x (sym e)).0

pub insn_within : (code : List ℕ) (at : ℕ) (x : At) → Ok x ≡ insn code at → x.next ≤ length code
insn_within code at x e = (insn-inside code at x (sym e)).1
