use Rattle.std.proofs.Common.{◌∙◌}
use Rattle.mvm_object.specs.Coming.{doing_named}
use Rattle.mvm_invoke.specs.Leaving.{left_named}
use Rattle.mvm_isolate.proofs.Keeping.{grows_then}
use Rattle.mvm_invoke.proofs.Telling.{limits_grow, told_grows}
use Rattle.mvm_thread.proofs.Coming.{attempt_settles, attempt_throws, is_definite, thrown_before}
use Rattle.mvm_thread.proofs.one_attempt.made.Goals as goal

pub returns-in-Ok-clause-does : goal.returns-in-Ok-clause-does
returns-in-Ok-clause-does g c context told =
    attempt_settles context (doing_named c.args.isolate.now c.args.state) c.args.isolate.now c.args.stack.now
    (left_named c.attempted.new.isolate c.attempted.new.stack c.in-Ok.left) (left_named c.attempted.new.isolate c.attempted.new.stack c.settled.result)
    c.requires.frame (c.in-Ok.ensures.does context told) (c.settled.ensures.does c.attempted.new.isolate)

pub returns-in-Ok-clause-after : goal.returns-in-Ok-clause-after
returns-in-Ok-clause-after g c = c.settled.ensures.after c.attempted.new.isolate c.in-Ok.ensures.after

pub returns-in-Throw : goal.returns-in-Throw
returns-in-Throw g c = record {
  does = λ context told.
      attempt_throws context (doing_named c.args.isolate.now c.args.state) c.args.isolate.now c.args.stack.now c.in-Err.why c.requires.frame (c.in-Err.ensures.does context told (is_definite c.in-Err.why c.in-Throw.is))
      ∙ thrown_before context c.args.isolate.now c.attempted.new.isolate c.args.stack.now c.attempted.new.stack c.in-Err.why (left_named c.thrown.new.isolate c.thrown.new.stack c.thrown.result)
      c.in-Err.ensures.err (c.frames_law.ensures.frames c.args.isolate.now c.attempted.new.isolate c.args.stack.now c.attempted.ensures.grows c.requires.keys)
      (c.throw_law.ensures c.attempted.new.isolate c.args.stack.now c.attempted.new.stack context.look context.thread c.in-Err.why _ c.requires.frame c.in-Err.ensures.rest c.in-Err.ensures.depth)
      (c.thrown.ensures.does context (told_grows context c.args.isolate.now c.attempted.new.isolate c.args.told told c.attempted.ensures.grows c.attempted.ensures.links));
  after = c.thrown.ensures.after;
  begins = c.thrown.ensures.begins _ _;
  err = tt;
  stack = tt;
  links = c.thrown.ensures.links ∙ c.attempted.ensures.links;
  keys = c.thrown.ensures.keys;
  limits = limits_grow c.attempted.new.isolate c.thrown.new.isolate c.thrown.new.stack c.thrown.ensures.grows (c.thrown.ensures.limits c.attempted.new.isolate.env.launch.limits c.attempted.ensures.limits);
  grows = grows_then c.args.isolate.now c.attempted.new.isolate c.thrown.new.isolate c.attempted.ensures.grows c.thrown.ensures.grows;
}
