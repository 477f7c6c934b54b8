use Rattle.mvm_mirror.specs.Kept.{classes_of}
use Rattle.mvm_isolate.specs.Numbered.{name_in, named}
use Rattle.mvm_isolate.proofs.Loading.{numbered_as}
use Rattle.mvm_isolate.proofs.isolate.Isolate.get_static.Goals as goal

pub returns : goal.returns
unfolding named
returns c =
    let classes = classes_of c.self.inside.mirrors in
    let numbered = numbered_as classes c.args.mirror c.class-class.result.now c.class-class.ensures.value c.class-class.ensures.numbered in
    rw (← c.self.view_is) (λ name desc placed. c.get_static.ensures (name_in classes c.args.mirror) name desc (record { numbered = numbered; placed = placed }))
