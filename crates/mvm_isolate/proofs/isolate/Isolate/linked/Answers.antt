use Rattle.std.proofs.Common.{◌∙◌, ap, sym}
use Rattle.mvm_table.specs.Files.{files_in}
use Rattle.mvm_table.specs.Link.{linked}
use Rattle.mvm_isolate.specs.Faults.{looked_up}
use Rattle.mvm_isolate.specs.Numbered.{name_at}
use Rattle.mvm_isolate.proofs.LookUps.{failed_up, look_linked}
use Rattle.mvm_isolate.proofs.isolate.Isolate.linked.Goals as goal

pub returns-in-Ok : goal.returns-in-Ok
returns-in-Ok g c =
    let n = c.args.self.now in
    let name = name_at n c.args.mirror in
    let link = look_linked n.files n.env.launch.set name c.class.result.now c.class.ensures.value in
    let answer = rw c.requires.files at (c.in-Ok.ensures.answer name c.class.ensures.name) in
    rw link (ap (looked_up {A = Unit {0}}) answer)

pub returns-in-Err : goal.returns-in-Err
returns-in-Err g c =
    let n = c.args.self.now in
    let name = name_at n c.args.mirror in
    let link = look_linked n.files n.env.launch.set name c.class.result.now c.class.ensures.value in
    let answer = rw c.requires.files at (c.in-Err.ensures.answer name c.class.ensures.name) in
    rw link (failed_up (linked (files_in c.class.result.now.set n.files) name) c.in-Err.fault c.into.result answer c.into.ensures)
