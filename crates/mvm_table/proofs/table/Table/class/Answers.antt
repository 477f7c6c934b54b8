use Rattle.std.proofs.Common.{◌∙◌, ap, sym}
use Rattle.mvm_table.specs.Cost.{to_read}
use Rattle.mvm_table.proofs.Above.{answers_reads}
use Rattle.mvm_table.proofs.Starting.{ok_class, is_loaded, answers_loaded}
use Rattle.mvm_table.proofs.table.Table.class.Goals as goal

pub returns-in-Some-clause-loaded : goal.returns-in-Some-clause-loaded
returns-in-Some-clause-loaded g c =
    is_loaded c.args.self.now.files c.args.set c.args.name.now c.in_ok-class.class c.requires (c.in-Some.ensures.loaded ∙ ap ok_class (sym c.in_ok-class.ensures))

pub returns-clause-loaded : goal.returns-clause-loaded
returns-clause-loaded g c = answers_loaded c.args.self.now.files c.args.set c.args.name.now c.load.result c.requires c.load.ensures.answer

pub returns-clause-reads : goal.returns-clause-reads
returns-clause-reads g c = λ off. answers_reads c.args.self.now.files (to_read c.args.self.now c.args.set) c.args.set c.args.name.now c.load.result c.args.steps.now _ c.load.ensures.answer (c.load.ensures.reads off)
