use Rattle.std.proofs.Common.{sym, ◌∙◌}
use Rattle.mvm_isolate.specs.Numbered.{look_of, name_at}
use Rattle.mvm_current.proofs.Called.{key_is, key_runs, key_none}
use Rattle.mvm_current.proofs.code.key_of.Goals as goal

pub returns-in-Some-clause-key : goal.returns-in-Some-clause-key
returns-in-Some-clause-key c = key_is c.args.isolate.now _ c.class.result.now c.args.name.now c.args.desc.now c.requires c.class.ensures.at c.class.ensures.name (sym c.place_in.ensures.value ∙ c.in-Some.is) c.in-Some.ensures.there

pub returns-in-Some-clause-runs : goal.returns-in-Some-clause-runs
returns-in-Some-clause-runs c pc = key_runs c.args.isolate.now _ c.class.result.now c.args.name.now c.args.desc.now pc c.in-Some.ensures.method c.class.ensures.at c.class.ensures.name (sym c.place_in.ensures.value ∙ c.in-Some.is) c.in-Some.ensures.there

pub returns-in-None-clause-none : goal.returns-in-None-clause-none
returns-in-None-clause-none c = key_none (look_of c.args.isolate.now) (name_at c.args.isolate.now c.args.mirror) c.class.result.now c.args.name.now c.args.desc.now c.class.ensures.value (sym c.place_in.ensures.value ∙ c.in-None.is)
