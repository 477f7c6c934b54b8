use Rattle.std.proofs.Common.{◌∙◌, ap, sym}
use Rattle.mvm_table.specs.Resolve.{resolve}
use Rattle.mvm_table.specs.declared.resolved.Resolved.{Resolved}
use Rattle.mvm_isolate.specs.Faults.{looked_up}
use Rattle.mvm_isolate.specs.Numbered.{name_at}
use Rattle.mvm_isolate.proofs.LookUps.{failed_up, look_entry}
use Rattle.mvm_isolate.proofs.isolate.Isolate.entry.Goals as goal

pub returns-in-Ok-clause-answer : goal.returns-in-Ok-clause-answer
returns-in-Ok-clause-answer g c =
    let n = c.args.self.now in
    let entry = look_entry n.files n.env.launch.set (name_at n c.args.mirror) c.class.result.now c.class.ensures.value c.args.index in
    let answer = rw c.requires.files at c.in-Ok.ensures.answer in
    rw entry (ap (looked_up {A = Resolved}) answer)

pub returns-in-Err-clause-answer : goal.returns-in-Err-clause-answer
returns-in-Err-clause-answer g c =
    let n = c.args.self.now in
    let entry = look_entry n.files n.env.launch.set (name_at n c.args.mirror) c.class.result.now c.class.ensures.value c.args.index in
    let answer = rw c.requires.files at c.in-Err.ensures.answer in
    rw entry (failed_up (resolve n.files c.class.result.now c.args.index) c.in-Err.fault c.into.result answer c.into.ensures)
