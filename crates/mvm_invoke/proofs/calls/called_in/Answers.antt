use Rattle.std.proofs.Common.{◌∙◌}
use Rattle.mvm_isolate.specs.Numbered.{name_at}
use Rattle.mvm_invoke.proofs.Calling.{key_class}
use Rattle.mvm_invoke.proofs.Telling.{keys_below, limits_below, limits_grow}
use Rattle.mvm_invoke.proofs.calls.called_in.Goals as goal

pub entered_frame-requires-clause-class : goal.entered_frame-requires-clause-class
entered_frame-requires-clause-class g c =
    key_class c.args.isolate.now c.args.stack.now c.in-Some-key_of.key (name_at c.args.isolate.now c.args.mirror) c.name.result.now c.desc.result.now c.requires.keys c.in-Some-key_of.ensures.key c.in-Some-key_of.ensures.method c.in-Some-key_of.ensures.runs ∙ c.requires.name

pub returns-in-None-clause-keys : goal.returns-in-None-clause-keys
returns-in-None-clause-keys g c = keys_below c.args.isolate.now c.native_or_none.new.isolate c.args.stack.now c.native_or_none.new.stack c.native_or_none.ensures.grows c.requires.keys c.native_or_none.ensures.below

pub returns-in-None-clause-limits : goal.returns-in-None-clause-limits
returns-in-None-clause-limits g c =
    limits_below c.native_or_none.new.isolate.env.launch.limits c.args.stack.now c.native_or_none.new.stack (limits_grow c.args.isolate.now c.native_or_none.new.isolate c.args.stack.now c.native_or_none.ensures.grows c.requires.limits) c.native_or_none.ensures.below
