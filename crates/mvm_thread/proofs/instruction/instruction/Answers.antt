use Rattle.mvm_thread.proofs.Going.{goes_below, none_goes}
use Rattle.mvm_thread.proofs.instruction.instruction.Goals as goal

pub returns-in-Ok-None-clause-does : goal.returns-in-Ok-None-clause-does
returns-in-Ok-None-clause-does g c context told =
    goes_below context c.args.isolate.now c.args.stack.now c.in_frame.new.stack c.does.result c.args.told.object _ c.requires.frame c.in_frame.ensures.below told.object c.does.ensures.object c.does.ensures.after (none_goes context c.in-Ok-None.field-0 _ c.args.isolate.now c.in_frame.new.stack c.in-Ok-None.field-0-is (c.in-Ok-None.ensures.does context told.look))
