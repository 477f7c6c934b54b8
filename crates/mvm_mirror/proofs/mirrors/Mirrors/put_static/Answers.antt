use Rattle.std.proofs.Common.{refl}
use Rattle.std.specs.Prelude.{slice_set}
use Rattle.std.proofs.lemmas.List.{length-set}
use Rattle.mvm_mirror.proofs.Changed.{static_set, classes_set, kept_set}
use Rattle.mvm_mirror.proofs.mirrors.Mirrors.put_static.Goals as goal

pub invariant_of-self : goal.invariant_of-self
invariant_of-self c =
    let w = c.set_static.ensures in
    rw w.2 (kept_set _ c.self.inside.mirrors.items c.args.mirror w.0 (record w.0 { statics = slice_set w.0.statics c.args.slot c.args.value }) c.self.invariant w.1 refl (length-set w.0.statics c.args.slot c.args.value))

pub returns-clause-named : goal.returns-clause-named
returns-clause-named c =
    let w = c.set_static.ensures in
    rw (← c.self.view_is, w.2) (λ name field desc i. static_set _ c.self.inside.mirrors.items c.args.mirror c.args.slot w.0 c.args.value name field desc c.self.invariant w.1 i)

pub returns-clause-classes : goal.returns-clause-classes
returns-clause-classes c =
    let w = c.set_static.ensures in
    rw (← c.self.view_is, w.2) (classes_set c.self.inside.mirrors.items c.args.mirror w.0 (record w.0 { statics = slice_set w.0.statics c.args.slot c.args.value }) w.1 refl)
