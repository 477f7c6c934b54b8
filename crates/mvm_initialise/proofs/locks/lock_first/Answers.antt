use Rattle.std.proofs.Common.{◌≡◌, false, sym, arith}
use Rattle.mvm_heap.specs.Sorts.{words_needed}
use Rattle.mvm_heap.specs.declared.kind.ObjectKind.TheVariants.{Object}
use Rattle.mvm_isolate.specs.Numbered.{name_at, named}
use Rattle.mvm_initialise.proofs.Entering.{full, refused}
use Rattle.mvm_initialise.proofs.locks.lock_first.Goals as goal

pub returns-then-not-room-clause-does : goal.returns-then-not-room-clause-does
returns-then-not-room-clause-does c = λ other.
    let r : c.args.room ≡ false = grind (arith, c.if-not-room.true) in
    rw r (full c.args.thread (name_at c.args.isolate.now c.args.mirror) (named c.args.isolate.now) c.requires.none c.requires.monitors
    (sym (c.in-Ok.ensures.exact (words_needed Object 0) (omega (arith, c.words_needed.ensures.words)))))

pub returns-in-Err-clause-does : goal.returns-in-Err-clause-does
returns-in-Err-clause-does c = λ other.
    refused c.args.room c.args.thread (name_at c.args.isolate.now c.args.mirror) (named c.args.isolate.now) c.in-Err.stop c.requires.none
    (sym (c.in-Err.ensures.exact (words_needed Object 0) (omega (arith, c.words_needed.ensures.words))))
