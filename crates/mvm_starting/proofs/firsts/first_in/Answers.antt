use Rattle.std.proofs.Common.{ap, sym, ◌∙◌}
use Rattle.mvm_current.specs.Frames.{method}
use Rattle.mvm_isolate.specs.Members.{method_in}
use Rattle.mvm_isolate.specs.Numbered.{look_of, name_at}
use Rattle.mvm_starting.proofs.Taking.{class_of_key, no_head, same_method, same_search}
use Rattle.mvm_starting.proofs.firsts.first_in.Goals as goal

pub returns-in-Some-clause-first : goal.returns-in-Some-clause-first
returns-in-Some-clause-first c = record {
  is_key = c.in-Some.ensures.key;
  runs_one = c.in-Some.ensures.method;
  unlocked = c.in-Some.ensures.lock;
  of_class = class_of_key c.args.isolate.now c.in-Some.key (name_at c.args.isolate.now c.args.mirror) c.name.result.now c.desc.result.now c.in-Some.ensures.key c.in-Some.ensures.method c.in-Some.ensures.runs ∙ c.requires.name;
  runs = c.in-Some.ensures.runs 0 ∙ same_method _ _ _ _ _ _ c.requires.name c.name.ensures c.desc.ensures;
}

pub returns-in-None-clause-err : goal.returns-in-None-clause-err
returns-in-None-clause-err c = no_head (look_of c.args.isolate.now) c.args.member.now _ (sym (same_search (look_of c.args.isolate.now) _ _ _ _ _ _ c.requires.name c.name.ensures c.desc.ensures) ∙ c.in-None.ensures.none)
