use Rattle.mvm_mirror.specs.Kept.{classes_of, seen_of}
use Rattle.mvm_mirror.specs.Seen.{with_object}
use Rattle.mvm_isolate.specs.Numbered.{name_in, named}
use Rattle.mvm_isolate.proofs.Held.{held}
use Rattle.mvm_isolate.proofs.Loading.{numbered_as}
use Rattle.mvm_isolate.proofs.Mirroring.{grows_seen, named_seen, sound_seen}
use Rattle.mvm_isolate.proofs.isolate.Isolate.set_class_object.Goals as goal

pub invariant_of-self : goal.invariant_of-self
invariant_of-self c = sound_seen (held c.self.inside) c.set_class_object.new.self c.set_class_object.ensures.classes c.self.inside.known c.self.invariant

pub returns-clause-named : goal.returns-clause-named
unfolding named
returns-clause-named c =
    let n = held c.self.inside in
    let classes = classes_of n.mirrors in
    let name = name_in classes c.args.mirror in
    let numbered = numbered_as classes c.args.mirror c.class-class.result.now c.class-class.ensures.value c.class-class.ensures.numbered in
    let seen = c.set_class_object.ensures.named name numbered in
    rw (← c.self.view_is) (named_seen n c.set_class_object.new.self c.set_class_object.ensures.classes (with_object name c.args.object (seen_of n.mirrors)) seen)

pub returns-clause-grows : goal.returns-clause-grows
returns-clause-grows c = rw (← c.self.view_is) (grows_seen (held c.self.inside) c.set_class_object.new.self c.set_class_object.ensures.classes)
