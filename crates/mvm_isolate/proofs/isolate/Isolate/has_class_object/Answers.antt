use Rattle.mvm_mirror.specs.Kept.{classes_of}
use Rattle.mvm_isolate.specs.Numbered.{name_in, named}
use Rattle.mvm_isolate.proofs.Loading.{numbered_as}
use Rattle.mvm_isolate.proofs.isolate.Isolate.has_class_object.Goals as goal

pub returns : goal.returns
unfolding named
returns c =
    let classes = classes_of c.self.inside.mirrors in
    rw (← c.self.view_is) (c.class_object.ensures (name_in classes c.args.mirror) (numbered_as classes c.args.mirror c.class-class.result.now c.class-class.ensures.value c.class-class.ensures.numbered))
