use Rattle.mvm_mirror.specs.Kept.{classes_of, seen_of}
use Rattle.mvm_mirror.specs.Seen.{with_static}
use Rattle.mvm_isolate.specs.Initialise.{static_set}
use Rattle.mvm_isolate.specs.Numbered.{name_in, named}
use Rattle.mvm_isolate.specs.Values.{narrowed}
use Rattle.mvm_isolate.proofs.Held.{held}
use Rattle.mvm_isolate.proofs.Loading.{numbered_as}
use Rattle.mvm_isolate.proofs.Mirroring.{grows_seen, named_seen, sound_seen}
use Rattle.mvm_isolate.proofs.isolate.Isolate.set_static.Goals as goal

pub invariant_of-self : goal.invariant_of-self
invariant_of-self c = sound_seen (held c.self.inside) c.put_static.new.self c.put_static.ensures.classes c.self.inside.known c.self.invariant

pub returns-clause-named : goal.returns-clause-named
unfolding static_set named
returns-clause-named c =
    let n = held c.self.inside in
    let classes = classes_of n.mirrors in
    let class_name = name_in classes c.args.mirror in
    let numbered = numbered_as classes c.args.mirror c.class-class.result.now c.class-class.ensures.value c.class-class.ensures.numbered in
    rw (← c.self.view_is) (λ name placed.
    let put = rw c.narrowed.ensures at (c.put_static.ensures.named class_name name c.args.desc.now (record { numbered = numbered; placed = placed })) in
    named_seen n c.put_static.new.self c.put_static.ensures.classes (with_static class_name name c.args.desc.now (narrowed c.args.desc.now c.args.value) (seen_of n.mirrors)) put)

pub returns-clause-grows : goal.returns-clause-grows
returns-clause-grows c = rw (← c.self.view_is) (grows_seen (held c.self.inside) c.put_static.new.self c.put_static.ensures.classes)
