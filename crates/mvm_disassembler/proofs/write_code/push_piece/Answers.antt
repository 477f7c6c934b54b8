use Rattle.std.proofs.Common.{rules, ◌≡◌, ◌++◌, ◌∙◌, ap, sym, List, ℕ, append_assoc}
use Rattle.std.proofs.lemmas.Result.{on_ok_weaker}
use Rattle.mvm_listing.specs.Disassembly.{mark, piece_line}
use Rattle.mvm_disassembler.specs.Steps.{shown_by, marked_by, whole_line, lines_text, piece_text}
use Rattle.mvm_disassembler.proofs.Written.{piece_is}
use Rattle.mvm_disassembler.proofs.write_code.push_piece.Goals as goal

pub returns : goal.returns
returns c =
    let pool = c.args.pool.now in
    let before = c.args.out.now in
    let marks = lines_text pool (mark (marked_by c.args.targets.now) c.args.at) in
    let shown = piece_line (shown_by c.args.begins.now) c.args.piece in
    let marked : c.push_mark.new.out ≡ before ++ marks = search rules in
    let line : c.in_ok-line.line ≡ shown = search rules in
    let same : c.push_mark.new.out ++ whole_line pool c.in_ok-line.line ≡ before ++ piece_text pool c.args.targets.now c.args.begins.now (c.args.at, c.args.piece) =
    ap (λ (t : List ℕ). t ++ whole_line pool c.in_ok-line.line) marked ∙ append_assoc before marks (whole_line pool c.in_ok-line.line)
    ∙ ap (λ s. before ++ (marks ++ whole_line pool s)) line ∙ ap (λ (t : List ℕ). before ++ t) (sym (piece_is pool c.args.targets.now c.args.begins.now c.args.at c.args.piece)) in
    on_ok_weaker c.push_line.result (λ h. h ∙ same) c.push_line.ensures
