-- Going over the lines of a text.
use Rattle.std.proofs.Common.{◌≡◌, ℕ, ◌+◌, List, [], length, map, Option, None, Result, ap, ◌∙◌, sym, arith}
use Rattle.mvm_statement.specs.declared.fault.AsmKind.{AsmKind}
use Rattle.mvm_statement.specs.declared.statement.Statement.{Statement}
use Rattle.mvm_statement.specs.Statements.{line_says}
use Rattle.mvm_listing.specs.Assembly.{start, run, judged, assembled, lines_of}
use Rattle.mvm_asm.specs.declared.going.Going.{Going}
use Rattle.mvm_asm.specs.Turning.{state_of}
use Rattle.mvm_asm.specs.Cutting.{lines_behind}
use Rattle.mvm_asm.specs.Going.{gone_on, continued, ran_of}
use Rattle.mvm_asm.proofs.Faults.{gone_over}

pub begun : (g : Going) → state_of g.growing ≡ start → g.fault ≡ None → g.count ≡ 0 → (lines : List (Result (Option Statement) AsmKind)) → continued g lines ≡ run 1 lines start
begun g growing fault count lines =
    ap (λ f. gone_on f g.count lines (state_of g.growing)) fault
    ∙ (ap (λ n. gone_on None n lines (state_of g.growing)) count
    ∙ ap (λ s. run 1 lines s) growing)

pub over : (g : Going) (text : List ℕ) (behind : Option (List ℕ)) → behind ≡ None
    → ((total : ℕ) → judged total (continued g (map line_says (lines_behind behind))) ≡ judged total (run 1 (map line_says (lines_of text)) start))
    → g.count + length (lines_behind behind) ≡ length (lines_of text)
    → judged g.count (ran_of g) ≡ assembled text
unfolding assembled
over g text behind none goes count =
    let at_end : (total : ℕ) → judged total (continued g []) ≡ judged total (run 1 (map line_says (lines_of text)) start) = rw none at goes in
    let all : g.count ≡ length (lines_of text) = let n = rw none at count in omega (arith, n) in
    ap (judged g.count) (sym (gone_over g.fault g.count (state_of g.growing)))
    ∙ (at_end g.count ∙ ap (λ n. judged n (run 1 (map line_says (lines_of text)) start)) all)
