use Rattle.std.proofs.Common.{sym}
use Rattle.mvm_isolate.proofs.Keeping.{grows_same}
use Rattle.mvm_kept.proofs.Growing.{instance_kept}
use Rattle.mvm_kept.proofs.fields.keep_at.Goals as goal

pub returns-in-Some : goal.returns-in-Some
returns-in-Some c =
    c.keep.ensures c.args.isolate.now c.requires.kept
    (instance_kept c.args.isolate.now c.args.isolate.now c.args.stack.now c.in-Some.key c.args.index c.args.at (grows_same c.args.isolate.now) (sym c.in-Some.ensures) c.requires.method
    c.requires.keys c.requires.at)
