use Rattle.std.proofs.Common.{List, subst}
use Rattle.mvm_mirror.specs.declared.mirror.Mirror.{Mirror}
use Rattle.mvm_isolate.specs.Sound.{Loads}
use Rattle.mvm_isolate.proofs.Beginning.{begins, begins_sound, no_monitors}
use Rattle.mvm_isolate.proofs.isolate.Isolate.new.Goals as goal

pub invariant_of-result : goal.invariant_of-result
invariant_of-result g c =
    let files = c.args.table.now.files in
    let mirrors = c.known_classes.new.mirrors in
    let loads = subst (λ (old : List Mirror). Loads files c.args.env.launch.set old mirrors) c.new-mirrors.ensures c.known_classes.ensures.loads in
    rw (c.new-arrays.ensures, c.of.ensures) (begins_sound c.args.env mirrors files c.requires.empty loads c.in_ok-known.known c.requires.set c.in_ok-known.ensures.known (no_monitors c.args.env.heap.state.objects c.args.env.heap.state.monitors c.count-count.result c.count-count.ensures.is c.count-count.ensures.monitors c.requires.empty))

pub returns-clause-named : goal.returns-clause-named
returns-clause-named g c =
    let files = c.args.table.now.files in
    let mirrors = c.known_classes.new.mirrors in
    let loads = subst (λ (old : List Mirror). Loads files c.args.env.launch.set old mirrors) c.new-mirrors.ensures c.known_classes.ensures.loads in
    rw (c.new-arrays.ensures, c.of.ensures) (begins c.args.env mirrors files c.requires.empty loads)
