use Rattle.std.proofs.Common.{sym}
use Rattle.mvm_kept.proofs.Growing.{test_kept}
use Rattle.mvm_kept.proofs.types.keep_test.Goals as goal

pub returns-in-Some : goal.returns-in-Some
returns-in-Some c =
    c.keep.ensures c.args.isolate.now c.requires.kept (test_kept c.args.isolate.now c.args.stack.now c.in-Some.key c.args.index c.args.at (sym c.in-Some.ensures) c.requires.method c.requires.keys c.requires.at)
