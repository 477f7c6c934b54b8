use Rattle.std.proofs.Common.{Ok, ap, refl, ◌∙◌}
use Rattle.mvm_isolate.proofs.Keeping.{grows_same}
use Rattle.mvm_object.specs.Coming.{point_of}
use Rattle.mvm_thread.proofs.Staying.{stays_still}
use Rattle.mvm_thread.proofs.Waiting.{stays_left}
use Rattle.mvm_thread.proofs.attempting.attempted.Goals as goal

pub returns-in-Waiting : goal.returns-in-Waiting
returns-in-Waiting g c = record {
  does = λ context told.
      stays_still context c.args.isolate.now c.args.state (point_of c.args.isolate.now c.args.stack.now) c.in-Waiting.is
      ∙ ap Ok (stays_left context c.args.isolate.now c.args.told c.args.stack.now c.args.state c.does.result told c.requires.frame c.does.ensures.object c.does.ensures.after);
  grows = grows_same c.args.isolate.now;
  links = refl;
  keys = c.requires.keys;
  limits = c.requires.limits;
  after = rw c.does.ensures.after c.requires.state;
  begins = rw c.does.ensures.after tt;
  err = tt;
  rest = tt;
  depth = tt;
  memory = λ e. refl;
}
