-- What an instruction's bytes are read as is written by its mnemonic, where they are spelled as usual.
use Rattle.std.proofs.Common.{◌≡◌, ℕ, ◌+◌, ◌-◌, ◌<◌, ◌^◌, List, [], ◌∷◌, length, take, drop, Ok, Err, refl, sym, ap, subst, ◌∙◌, arith}
use Rattle.std.proofs.lemmas.List.{take_at, take-append-drop}
use Rattle.mvm_base.specs.Bytes.{AreBytes}
use Rattle.mvm_base.proofs.Bytes.{right_bytes}
use Rattle.mvm_base.specs.Place.{Place}
use Rattle.mvm_insn.specs.Opcodes.{operands_of}
use Rattle.mvm_insn.specs.Readers.{number}
use Rattle.mvm_insn.specs.Insns.{Read, operands, located, read_at, insn}
use Rattle.mvm_insn.proofs.Inside.{insn-inside}
use Rattle.mvm_insn.specs.declared.insn.At.{At}
use Rattle.mvm_insn.specs.declared.insn.Insn.{Insn}
use Rattle.mvm_insn.specs.declared.table.Operands.{Operands}
use Rattle.mvm_insn.specs.declared.table.Operands.TheVariants as shape
use Rattle.mvm_listing.specs.Disassembly.{gives, line_of}
use Rattle.mvm_listing.specs.Laws.{bytes_of, is_usual, MnemonicLaw}
use Rattle.mvm_listing.proofs.Fronts.{Front, front_on, ok_is, bound, u1_read}
use Rattle.mvm_listing.proofs.Named.{Named, u1_is, alone, byte_number_named, short_number_named, byte_pool_named, short_pool_named, byte_local_named, increment_named, widened_named, short_jump_named, long_jump_named, invocation_named, items_named, dimensions_named}
use Rattle.mvm_listing.proofs.Tests.{same_tests}
use Rattle.mvm_listing.proofs.Switches.{table_named, lookup_named}

operands_named : (pc op : ℕ) (o : Operands) (p : Place) (y : Insn × Place) → AreBytes p.rest → pc < 2 ^ 32 → operands_of op ≡ o → operands pc op o p ≡ Ok y → Named pc op p y
unfolding operands
operands_named pc op shape.Alone p y b s e h = subst (Named pc op p) (ok_is _ y h) (alone pc op p b e)
operands_named pc op shape.ByteNumber p y b s e h = byte_number_named pc op p y b e h
operands_named pc op shape.ShortNumber p y b s e h = short_number_named pc op p y b e h
operands_named pc op shape.BytePool p y b s e h = byte_pool_named pc op p y b e h
operands_named pc op shape.ShortPool p y b s e h = short_pool_named pc op p y b e h
operands_named pc op shape.ByteLocal p y b s e h = byte_local_named pc op p y b e h
operands_named pc op shape.Increment p y b s e h = increment_named pc op p y b e h
operands_named pc op shape.ShortJump p y b s e h = short_jump_named pc op p y b s e h
operands_named pc op shape.LongJump p y b s e h = long_jump_named pc op p y b s e h
operands_named pc op shape.Table p y b s e h = table_named pc op p y b s e h
operands_named pc op shape.Lookup p y b s e h = lookup_named pc op p y b s e h
operands_named pc op shape.Invocation p y b s e h = invocation_named pc op p y b e h
operands_named pc op shape.Items p y b s e h = items_named pc op p y b e h
operands_named pc op shape.Dimensions p y b s e h = dimensions_named pc op p y b e h
operands_named pc op shape.Widened p y b s e h = widened_named pc op p y b e h
operands_named pc op shape.Foreign p y b s e h = absurd cc
operands_named pc op shape.Absent p y b s e h = absurd cc

located_is : (r : Read) (x : At) → located r ≡ Ok x → (y : Insn × Place) × (r ≡ Ok y) × (record { insn = y.0; next = y.1.at } ≡ x)
located_is (Ok y) x e = (y, refl, ok_is (record { insn = y.0; next = y.1.at }) x e)
located_is (Err fault) x e = absurd cc

whole_same : (code : List ℕ) (pc : ℕ) (y : Insn × Place) → AreBytes code → pc < 2 ^ 32 → read_at pc (record { at = pc; rest = drop pc code }) ≡ Ok y
    → gives pc (line_of y.0) (take (y.1.at - pc) (drop pc code)) ≡ is_usual pc y.0 (take (y.1.at - pc) (drop pc code))
unfolding read_at
whole_same code pc y b small h =
    let p : Place = record { at = pc; rest = drop pc code } in
    let are : AreBytes (drop pc code) = right_bytes code (take pc code) (drop pc code) (sym (take-append-drop pc code)) b in
    let r = bound (number 1 p) _ y h in
    let n = u1_read p r.0 are r.1 in
    let op = r.0.0 in
    let named = operands_named pc op (operands_of op) r.0.1 y n.front.left small refl r.2 in
    let one : Front p (op ∷ []) r.0.1 = subst (λ (t : List ℕ). Front p t r.0.1) (u1_is op n.low) n.front in
    let all = front_on p r.0.1 y.1 (op ∷ []) named.text one named.front in
    let size : length (op ∷ named.text) ≡ y.1.at - pc = let place : y.1.at ≡ pc + length (op ∷ named.text) = all.place in omega (arith, place) in
    let bytes : take (y.1.at - pc) (drop pc code) ≡ op ∷ named.text = ap (λ (t : List ℕ). take (y.1.at - pc) t) all.front ∙ take_at (op ∷ named.text) y.1.rest (y.1.at - pc) size in
    subst (λ (t : List ℕ). gives pc (line_of y.0) t ≡ is_usual pc y.0 t) (sym bytes) (same_tests _ _ named.usual named.named)

-- the line of what is read is assembled to its bytes exactly where they are in their usual spelling
pub same_usual : (code : List ℕ) (pc : ℕ) (x : At) → AreBytes code → length code < 2 ^ 32 → insn code pc ≡ Ok x → gives pc (line_of x.insn) (bytes_of code pc x) ≡ is_usual pc x.insn (bytes_of code pc x)
unfolding insn
same_usual code pc x b small h =
    let r = located_is (read_at pc (record { at = pc; rest = drop pc code })) x h in
    let inside = insn-inside code pc x h in
    let low : pc < 2 ^ 32 = omega (arith, inside.0, inside.1, small) in
    let e = r.2 in
    subst (λ (a : At). gives pc (line_of a.insn) (bytes_of code pc a) ≡ is_usual pc a.insn (bytes_of code pc a)) e (whole_same code pc r.0 b low r.1)

pub mnemonics : MnemonicLaw
mnemonics code pc x b small h u = same_usual code pc x b small h ∙ u
