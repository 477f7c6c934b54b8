use Rattle.mvm_thread.specs.Instructions.{further}
use Rattle.mvm_invoke.proofs.Telling.{keys_below}
use Rattle.mvm_thread.proofs.Going.{goes_below}
use Rattle.mvm_thread.proofs.further.further.Goals as goal

pub returns-in_ok-make_numbers-in-NewArray-clause-does : goal.returns-in_ok-make_numbers-in-NewArray-clause-does
unfolding further
returns-in_ok-make_numbers-in-NewArray-clause-does g c context told =
    rw c.in-NewArray.is
    (goes_below context c.make_numbers.new.isolate c.args.stack.now c.make_numbers.new.stack c.does.result c.args.told.object _ c.requires.frame c.make_numbers.ensures.below told.object c.does.ensures.object c.does.ensures.after (c.in_ok-make_numbers-in-NewArray.ensures.does context))

pub returns-in_ok-make_numbers-in-NewArray-clause-keys : goal.returns-in_ok-make_numbers-in-NewArray-clause-keys
returns-in_ok-make_numbers-in-NewArray-clause-keys g c = keys_below c.args.isolate.now c.make_numbers.new.isolate c.args.stack.now c.make_numbers.new.stack c.make_numbers.ensures.grows c.requires.keys c.make_numbers.ensures.below

pub returns-in_ok-make_arrays-in-Multi-clause-does : goal.returns-in_ok-make_arrays-in-Multi-clause-does
unfolding further
returns-in_ok-make_arrays-in-Multi-clause-does g c context told =
    rw c.in-Multi.is
    (goes_below context c.make_arrays.new.isolate c.args.stack.now c.make_arrays.new.stack c.does-in-Multi.result c.args.told.object _ c.requires.frame c.make_arrays.ensures.below told.object c.does-in-Multi.ensures.object c.does-in-Multi.ensures.after (c.in_ok-make_arrays-in-Multi.ensures.does context told.look))

pub returns-in_ok-make_arrays-in-Multi-clause-keys : goal.returns-in_ok-make_arrays-in-Multi-clause-keys
returns-in_ok-make_arrays-in-Multi-clause-keys g c = keys_below c.args.isolate.now c.make_arrays.new.isolate c.args.stack.now c.make_arrays.new.stack c.make_arrays.ensures.grows c.requires.keys c.make_arrays.ensures.below
