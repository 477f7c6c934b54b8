use Rattle.std.proofs.Common.{◌≡◌, ◌-◌, ◌++◌, length, sym, ◌∙◌}
use Rattle.std.proofs.lemmas.List.{take-append-drop}
use Rattle.mvm_statement.proofs.Defaults.{before_few, ends_bare, ends_other}
use Rattle.mvm_statement.proofs.read_lines.before_default.Goals as goal

pub returns-then-operands-lt2 : goal.returns-then-operands-lt2
returns-then-operands-lt2 c = before_few c.args.operands.now c.if-operands-lt2.true

pub returns-then-not-is_bare : goal.returns-then-not-is_bare
returns-then-not-is_bare c =
    let ts = c.args.operands.now in
    let front = c.split_at.result.0.now in
    let ending = c.split_at.result.1.now in
    let e : ts ≡ front ++ ending = rw (c.split_at.ensures.front, c.split_at.ensures.back) (sym (take-append-drop (length ts - 2) ts)) in
    ends_other ts front ending c.in_ok-word.word.now c.in_ok-word.place.now e c.in_ok-word.ensures (sym c.is_bare.ensures ∙ c.if-not-is_bare.true)

pub returns : goal.returns
returns c =
    let ts = c.args.operands.now in
    let front = c.split_at.result.0.now in
    let ending = c.split_at.result.1.now in
    let e : ts ≡ front ++ ending = rw (c.split_at.ensures.front, c.split_at.ensures.back) (sym (take-append-drop (length ts - 2) ts)) in
    ends_bare ts front ending c.in_ok-word.word.now c.in_ok-word.place.now e c.in_ok-word.ensures (sym c.is_bare.ensures ∙ c.if-not-is_bare.false)
