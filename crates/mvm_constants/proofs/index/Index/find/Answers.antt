use Rattle.std.proofs.Common.{Option, ap, sym, ◌∙◌}
use Rattle.mvm_constants.specs.declared.key.Key.{Key}
use Rattle.mvm_constants.proofs.Finding.{found_if, find_is}
use Rattle.mvm_constants.proofs.index.Index.find.Goals as goal

pub returns-in_err-key_sought : goal.returns-in_err-key_sought
returns-in_err-key_sought c = λ pool o.
    c.from_residual.ensures ∙ ap (λ (k : Option Key). found_if k c.args.self.now.keyed) (sym c.in_err-key_sought.was ∙ c.key_sought.ensures)
    ∙ find_is pool c.args.self.now o c.args.sought

pub returns : goal.returns
returns c = λ pool o.
    c.found.ensures ∙ ap (λ (k : Option Key). found_if k c.args.self.now.keyed) (sym c.in_ok-key_sought.was ∙ c.key_sought.ensures)
    ∙ find_is pool c.args.self.now o c.args.sought
