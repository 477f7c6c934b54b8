use Rattle.std.proofs.Common.{rules, ◌≡◌, ℕ, ◌+◌, true, false, List, [], ◌∷◌, ◌++◌, take, drop, ap, ◌∙◌, arith}
use Rattle.mvm_listing.specs.declared.piece.Piece.{Piece}
use Rattle.mvm_listing.specs.declared.piece.Piece.TheVariants.{Own}
use Rattle.mvm_listing.specs.Disassembly.{line_of, byte_pieces}
use Rattle.mvm_listing.specs.Laws.{bytes_of, is_usual}
use Rattle.mvm_disassembler.specs.Steps.{pieces_from}
use Rattle.mvm_disassembler.proofs.Chunks.{by_line, by_bytes, by_byte}
use Rattle.mvm_disassembler.proofs.pieces.push_chunk.Goals as goal

pub returns-in_default-clause-added : goal.returns-in_default-clause-added
returns-in_default-clause-added c =
    let code = c.args.code.now in
    let pushed : c.push_bytes.new.out.items ≡ c.args.out.now.items ++ byte_pieces c.args.at (take 1 (drop c.args.at code)) = search rules in
    ap (λ (t : List (ℕ × Piece)). t ++ pieces_from code (c.args.at + 1)) pushed ∙ by_byte code c.args.at c.in_default.field-0 c.args.out.now.items c.requires.within c.in_default.ensures

pub returns-in_ok-push-clause-added : goal.returns-in_ok-push-clause-added
returns-in_ok-push-clause-added c =
    let code = c.args.code.now in
    let x = c.in-Ok.found in
    let usual : is_usual c.args.at x.insn (bytes_of code c.args.at x) ≡ true = search rules in
    let pushed : c.push.new.self.items ≡ c.args.out.now.items ++ (c.args.at, Own (line_of x.insn)) ∷ [] = search rules in
    ap (λ (t : List (ℕ × Piece)). t ++ pieces_from code x.next) pushed ∙ by_line code c.args.at x c.args.out.now.items (λ i. omega (arith, c.type_inv.code i)) c.requires.small c.requires.within c.in-Ok.ensures usual

pub returns-in_ok-push_bytes-2-clause-added : goal.returns-in_ok-push_bytes-2-clause-added
returns-in_ok-push_bytes-2-clause-added c =
    let code = c.args.code.now in
    let x = c.in-Ok.found in
    let usual : is_usual c.args.at x.insn (bytes_of code c.args.at x) ≡ false = search rules in
    let pushed : c.push_bytes-else-is_usual.new.out.items ≡ c.args.out.now.items ++ byte_pieces c.args.at (bytes_of code c.args.at x) = search rules in
    ap (λ (t : List (ℕ × Piece)). t ++ pieces_from code x.next) pushed ∙ by_bytes code c.args.at x c.args.out.now.items (λ i. omega (arith, c.type_inv.code i)) c.requires.small c.requires.within c.in-Ok.ensures usual
