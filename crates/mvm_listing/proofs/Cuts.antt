-- The pieces of a code make its bytes.
use Rattle.std.proofs.Common.{◌≡◌, ℕ, zero, suc, ◌+◌, ◌<◌, ◌≤◌, Bool, true, false, cond, List, [], ◌∷◌, ◌++◌, length, take, drop, Option, Some, None, refl, sym, ap, subst, ◌∙◌, arith, append_assoc, length-append}
use Rattle.std.specs.Prelude.{nat_lt}
use Rattle.std.specs.List.{list_all}
use Rattle.std.proofs.lemmas.Bool.{ltb-true}
use Rattle.std.proofs.lemmas.List.{take-append-drop}
use Rattle.std.proofs.lemmas.Slice.Eq.{bytes_eq-Decides}
use Rattle.mvm_statement.specs.declared.instruction.Instruction.{Instruction as Line}
use Rattle.mvm_statement.specs.declared.statement.Statement.TheVariants.{Instruction}
use Rattle.mvm_statement.specs.Statements.{is_good}
use Rattle.mvm_listing.specs.declared.piece.Piece.{Piece}
use Rattle.mvm_listing.specs.declared.piece.Piece.TheVariants.{Own, OneByte}
use Rattle.mvm_listing.specs.Range.{fits}
use Rattle.mvm_listing.specs.Encoding.{targets_of, encoded, encoded_piece}
use Rattle.mvm_listing.specs.Disassembly.{Decoder, own_place, is_indexed, is_within, gives, byte_pieces, pieces_of, behind_first, chunk, pieces}
use Rattle.mvm_listing.proofs.Tests.{parts, append_none}

-- ---- pieces that make bytes, one behind the other

-- an instruction's own line, with its targets as numbers
pub record OwnLine (at : ℕ) (line : Line) : Type 0 where
  pub good : is_good (Instruction line) ≡ true
  pub fitting : fits [] (Instruction line) ≡ true
  pub entry : is_indexed line ≡ true
  pub targets : list_all (is_within line at) (targets_of (Own line)) ≡ true

abbrev pub Sound : ℕ → Piece → Type 0
Sound at (Own line) = OwnLine at line
Sound at (OneByte n) = n < 256

abbrev pub made : ℕ → Piece → List ℕ
made at piece = encoded_piece own_place at piece

abbrev pub Cuts : ℕ → List ℕ → List (ℕ × Piece) → Type 0
Cuts at bytes [] = bytes ≡ []
Cuts at bytes (p ∷ ps) = (rest : List ℕ) × (p.0 ≡ at) × Sound at p.1 × (bytes ≡ made at p.1 ++ rest) × Cuts (at + length (made at p.1)) rest ps

cuts_again : (at : ℕ) (xs ys : List ℕ) (ps qs : List (ℕ × Piece)) → Cuts at xs ps → Cuts (at + length xs) ys qs → Cuts at (xs ++ ys) (ps ++ qs)
cuts_again at xs ys [] qs p q =
    let n : at + length xs ≡ at = ap (λ (zs : List ℕ). at + length zs) p ∙ omega arith in
    subst (λ (zs : List ℕ). Cuts at (zs ++ ys) qs) (sym p) (subst (λ (m : ℕ). Cuts m ys qs) n q)
cuts_again at xs ys (r ∷ rs) qs p q =
    let e : xs ++ ys ≡ made at r.1 ++ (p.0 ++ ys) = ap (λ (zs : List ℕ). zs ++ ys) p.3 ∙ append_assoc (made at r.1) p.0 ys in
    let n : at + length xs ≡ (at + length (made at r.1)) + length p.0 = ap (λ (zs : List ℕ). at + length zs) p.3 ∙ omega (arith, length-append (made at r.1) p.0) in
    (p.0 ++ ys, p.1, p.2, e, cuts_again (at + length (made at r.1)) p.0 ys rs qs p.4 (subst (λ (m : ℕ). Cuts m ys qs) n q))

-- ---- the pieces of a code

abbrev pub are_bytes : List ℕ → Bool
are_bytes bytes = list_all (λ b. nat_lt b 256) bytes

byte_cuts : (at : ℕ) (bytes : List ℕ) → are_bytes bytes ≡ true → Cuts at bytes (byte_pieces at bytes)
byte_cuts at [] h = refl
byte_cuts at (b ∷ bs) h = let a = parts (nat_lt b 256) _ h in (bs, refl, ltb-true b 256 a.0, refl, byte_cuts (at + 1) bs a.1)

own_cuts : (at : ℕ) (line : Line) (bytes : List ℕ) → gives at line bytes ≡ true → Cuts at bytes ((at, Own line) ∷ [])
unfolding gives
own_cuts at line bytes h =
    let a = parts (is_good (Instruction line)) _ h in
    let b = parts (fits [] (Instruction line)) _ a.1 in
    let c = parts (is_indexed line) _ b.1 in
    let d = parts (list_all (is_within line at) (targets_of (Own line))) _ c.1 in
    let e : encoded own_place at line ≡ bytes = (bytes_eq-Decides (encoded own_place at line) bytes).0 d.1 in
    ([], refl, record { good = a.0; fitting = b.0; entry = c.0; targets = d.0 }, sym e ∙ sym (append_none (encoded own_place at line)), refl)

of_cuts : (at : ℕ) (line : Line) (bytes : List ℕ) → are_bytes bytes ≡ true → Cuts at bytes (pieces_of at line bytes)
of_cuts at line bytes h = by (gives at line bytes) refl
  where
    by : (b : Bool) → gives at line bytes ≡ b → Cuts at bytes (cond b ((at, Own line) ∷ []) (byte_pieces at bytes))
    by true t = own_cuts at line bytes t
    by false t = byte_cuts at bytes h

chunk_cuts : (found : Option (Line × ℕ)) (at : ℕ) (bytes : List ℕ) → are_bytes bytes ≡ true → Cuts at bytes (chunk found at bytes)
chunk_cuts None at bytes h = byte_cuts at bytes h
chunk_cuts (Some x) at bytes h = of_cuts at x.0 bytes h

bytes_taken : (k : ℕ) (bs : List ℕ) → are_bytes bs ≡ true → are_bytes (take k bs) ≡ true
bytes_taken zero bs h = refl
bytes_taken (suc k) [] h = refl
bytes_taken (suc k) (b ∷ bs) h = let a = parts (nat_lt b 256) _ h in rw a.0 (bytes_taken k bs a.1)

bytes_left : (k : ℕ) (bs : List ℕ) → are_bytes bs ≡ true → are_bytes (drop k bs) ≡ true
bytes_left zero bs h = h
bytes_left (suc k) [] h = refl
bytes_left (suc k) (b ∷ bs) h = let a = parts (nat_lt b 256) _ h in bytes_left k bs a.1

pub pieces_cut : (decode : Decoder) (n at : ℕ) (bytes : List ℕ) → length bytes ≤ n → are_bytes bytes ≡ true → Cuts at bytes (pieces decode n at bytes)
pieces_cut decode zero at [] l h = refl
pieces_cut decode zero at (b ∷ bs) l h = absurd (omega arith)
pieces_cut decode (suc n) at [] l h = refl
pieces_cut decode (suc n) at (b ∷ bs) l h =
    let found = decode at (b ∷ bs) in
    let k = behind_first found in
    let whole : take k bs ++ drop k bs ≡ bs = take-append-drop k bs in
    let short : length (drop k bs) ≤ n = omega (arith, length-append (take k bs) (drop k bs), ap (λ (x : List ℕ). length x) whole) in
    let a = parts (nat_lt b 256) _ h in
    let here : are_bytes (b ∷ take k bs) ≡ true = rw a.0 (bytes_taken k bs a.1) in
    let more = pieces_cut decode n (at + length (b ∷ take k bs)) (drop k bs) short (bytes_left k bs a.1) in
    let all = cuts_again at (b ∷ take k bs) (drop k bs) (chunk found at (b ∷ take k bs)) _ (chunk_cuts found at (b ∷ take k bs) here) more in
    subst (λ (xs : List ℕ). Cuts at (b ∷ xs) (pieces decode (suc n) at (b ∷ bs))) whole all
