use Rattle.mvm_mirror.specs.Kept.{classes_of, seen_of}
use Rattle.mvm_mirror.specs.Seen.{with_state}
use Rattle.mvm_mirror.specs.declared.state.InitState.TheVariants.{Erroneous}
use Rattle.mvm_isolate.specs.Initialise.{failed}
use Rattle.mvm_isolate.specs.Numbered.{name_in, named}
use Rattle.mvm_isolate.proofs.Held.{held}
use Rattle.mvm_isolate.proofs.Loading.{numbered_as}
use Rattle.mvm_isolate.proofs.Mirroring.{grows_seen, named_seen, sound_seen}
use Rattle.mvm_isolate.proofs.isolate.Isolate.fail.Goals as goal

pub invariant_of-self : goal.invariant_of-self
invariant_of-self c = sound_seen (held c.self.inside) c.fail.new.self c.fail.ensures.classes c.self.inside.known c.self.invariant

pub returns-clause-named : goal.returns-clause-named
unfolding failed named
returns-clause-named c =
    let n = held c.self.inside in
    let classes = classes_of n.mirrors in
    let name = name_in classes c.args.mirror in
    let numbered = numbered_as classes c.args.mirror c.class-class.result.now c.class-class.ensures.value c.class-class.ensures.numbered in
    rw (← c.self.view_is) (named_seen n c.fail.new.self c.fail.ensures.classes (with_state name Erroneous (seen_of n.mirrors)) (c.fail.ensures.named name numbered))

pub returns-clause-grows : goal.returns-clause-grows
returns-clause-grows c = rw (← c.self.view_is) (grows_seen (held c.self.inside) c.fail.new.self c.fail.ensures.classes)
