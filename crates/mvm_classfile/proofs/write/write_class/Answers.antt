use Rattle.std.proofs.Common.{List, ℕ, ◌≡◌, sym, ap, subst, ◌∙◌}
use Rattle.mvm_classfile.specs.Reading.{Reads}
use Rattle.mvm_classfile.specs.Writing.{written}
use Rattle.mvm_classfile.proofs.Whole.{written_again}
use Rattle.mvm_classfile.proofs.write.write_class.Goals as goal

pub returns-clause-again : goal.returns-clause-again
returns-clause-again c =
    let e : c.from_vec.result ≡ written c.args.class.now = c.from_vec.ensures ∙ c.in_ok-bytes.ensures ∙ ap written c.parts.ensures.value in
    subst (λ (text : List ℕ). Reads text c.args.class.now) (sym e) (written_again c.args.class.now c.parts.ensures.keeps)
