use Rattle.mvm_builtin.proofs.Computed.{counted, all_kept}
use Rattle.mvm_builtin.proofs.Order.{count_so, placed, placed_so, named_so, public_so, superclass_so, superinterfaces_so}
use Rattle.mvm_builtin.proofs.Checked.{checked_so}
use Rattle.mvm_builtin.proofs.laws.builtin_law.Goals as goal

pub returns : goal.returns
returns c = record {
  count = λ place. count_so place counted;
  placed = placed;
  apart = λ place file e. (let p = placed_so place file all_kept e in (p.name, p.is_name, p.is_place));
  named = λ name file e. named_so name file all_kept e;
  public = λ name file e. public_so name file all_kept e;
  checked = λ name file e. checked_so name file e;
  superclass = λ name super file e s. superclass_so name super file all_kept e s;
  superinterfaces = λ name file e. superinterfaces_so name file all_kept e;
}
