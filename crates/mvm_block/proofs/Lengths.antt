-- How many bytes an instruction has is as many as it is encoded to.
use Rattle.std.proofs.Common.{◌≡◌, ℕ, ◌+◌, ◌*◌, ◌-◌, ◌%◌, Bool, true, false, List, [], ◌∷◌, ◌++◌, length, refl, ◌∙◌, arith, length-append}
use Rattle.std.specs.Prelude.{pos, ◌-ℤ◌, if◌then◌else◌}
use Rattle.std.specs.List.{flat_map}
use Rattle.std.proofs.lemmas.List.{length-replicate}
use Rattle.mvm_insn.specs.Opcodes.{operands_of}
use Rattle.mvm_statement.specs.Numbers.{magnitude}
use Rattle.mvm_statement.specs.declared.operand.KeyRow.{KeyRow}
use Rattle.mvm_statement.specs.declared.operand.Place.{Place}
use Rattle.mvm_statement.specs.declared.instruction.Instruction.{Instruction}
use Rattle.mvm_statement.specs.declared.instruction.Instruction.TheVariants.{Plain, Push, Load, LoadLong, OfClass, OfMember, Local, Increment, Jump, Table, Lookup, Invocation, Items, Dimensions}
use Rattle.mvm_listing.specs.declared.piece.Piece.TheVariants.{Own}
use Rattle.mvm_listing.specs.Range.{pushes_byte, names_byte, jumps_far, takes_wide, highest}
use Rattle.mvm_listing.specs.Encoding.{loadable_index, u1, u2, u4, i1, i2, i4, padding, on_local, encoded, length_of}
use Rattle.mvm_block.specs.Lengths.{line_length}

either_length : (b : Bool) (xs ys : List ℕ) (m n : ℕ) → length xs ≡ m → length ys ≡ n → length (if b then xs else ys) ≡ (if b then m else n)
either_length true xs ys m n p q = p
either_length false xs ys m n p q = q

-- an opcode and one of two operands
behind_op : (b : Bool) (op : ℕ) (xs ys : List ℕ) (m n : ℕ) → length xs + 1 ≡ m → length ys + 1 ≡ n → length (op ∷ (if b then xs else ys)) ≡ (if b then m else n)
behind_op true op xs ys m n p q = omega (arith, p)
behind_op false op xs ys m n p q = omega (arith, q)

all_four : {A : Type 0} (f : A → List ℕ) → ((x : A) → length (f x) ≡ 4) → (xs : List A) → length (flat_map f xs) ≡ 4 * length xs
all_four f h [] = refl
all_four f h (x ∷ xs) = length-append (f x) (flat_map f xs) ∙ (let e : length (f x) + length (flat_map f xs) ≡ 4 * length (x ∷ xs) = omega (arith, h x, all_four f h xs) in e)

all_eight : {A : Type 0} (f : A → List ℕ) → ((x : A) → length (f x) ≡ 8) → (xs : List A) → length (flat_map f xs) ≡ 8 * length xs
all_eight f h [] = refl
all_eight f h (x ∷ xs) = length-append (f x) (flat_map f xs) ∙ (let e : length (f x) + length (flat_map f xs) ≡ 8 * length (x ∷ xs) = omega (arith, h x, all_eight f h xs) in e)

-- a switch: an opcode, the zeros behind it, numbers of four bytes, and its rows
switch_length : (at op n m : ℕ) (front rows : List ℕ) → length front ≡ n → length rows ≡ m → length (op ∷ (padding at ++ (front ++ rows))) ≡ 1 + n + (3 - at % 4) + m
switch_length at op n m front rows p q =
    omega (arith, length-append (padding at) (front ++ rows), length-replicate {A = ℕ} (3 - at % 4) 0, length-append front rows, p, q)

pub line_length_is : (at : ℕ) (line : Instruction) → length_of at (Own line) ≡ line_length at line
unfolding encoded
line_length_is at (Plain op) = refl
line_length_is at (Push op n) = behind_op (pushes_byte (operands_of op)) op (i1 n) (i2 n) 2 3 refl refl
line_length_is at (Load op x) = behind_op (names_byte (operands_of op)) op (u1 (loadable_index x)) (u2 (loadable_index x)) 2 3 refl refl
line_length_is at (LoadLong op x) = refl
line_length_is at (OfClass op class) = refl
line_length_is at (OfMember op member) = refl
line_length_is at (Local op n wide) = by (takes_wide wide n)
  where
    by : (b : Bool) → length (on_local b op (magnitude n) [] []) ≡ (if b then 4 else 2)
    by true = refl
    by false = refl
line_length_is at (Increment op n z wide) = by (takes_wide wide n)
  where
    by : (b : Bool) → length (on_local b op (magnitude n) (i1 z) (i2 z)) ≡ (if b then 6 else 3)
    by true = refl
    by false = refl
line_length_is at (Jump op target) = behind_op (jumps_far (operands_of op)) op (i4 (pos 0 -ℤ pos at)) (i2 (pos 0 -ℤ pos at)) 5 3 refl refl
line_length_is at (Table op low targets otherwise) =
    switch_length at op 12 (4 * length targets) (i4 (pos 0 -ℤ pos at) ++ (i4 low ++ i4 (highest low targets))) (flat_map (λ (x : Place). i4 (pos 0 -ℤ pos at)) targets) refl
    (all_four (λ (x : Place). i4 (pos 0 -ℤ pos at)) (λ x. refl) targets)
line_length_is at (Lookup op rows otherwise) =
    switch_length at op 8 (8 * length rows) (i4 (pos 0 -ℤ pos at) ++ u4 (length rows)) (flat_map (λ (row : KeyRow). i4 row.key ++ i4 (pos 0 -ℤ pos at)) rows) refl
    (all_eight (λ (row : KeyRow). i4 row.key ++ i4 (pos 0 -ℤ pos at)) (λ x. refl) rows)
line_length_is at (Invocation op member count) = refl
line_length_is at (Items op kind) = refl
line_length_is at (Dimensions op class count) = refl
