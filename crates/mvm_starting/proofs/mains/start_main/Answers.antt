use Rattle.std.proofs.Common.{ap, sym, ◌∙◌}
use Rattle.mvm_object.specs.Coming.{point_of}
use Rattle.mvm_starting.specs.Starting.{main_called}
use Rattle.mvm_starting.proofs.Beginning.{main_ends}
use Rattle.mvm_starting.proofs.mains.start_main.Goals as goal

pub returns-clause-does : goal.returns-clause-does
returns-clause-does g c context is =
    main_ends context _ (point_of c.args.isolate.now c.args.stack.now) c.in_ok-mirror.field-0 c.in-Ends.state c.once_initialised.new.isolate c.once_initialised.new.stack
    (c.in_ok-class.ensures ∙ ap (λ launch. launch.main) (c.launch.ensures ∙ sym is.launch)) c.in-Ends.is (c.in_ok-mirror.ensures.does context (main_called context) is) c.once_initialised.ensures.frame
