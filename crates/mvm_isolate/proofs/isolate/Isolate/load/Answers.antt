use Rattle.std.proofs.Common.{◌≡◌, ℕ}
use Rattle.std.proofs.lemmas.Result.{IfOk-weaker}
use Rattle.mvm_mirror.specs.Kept.{classes_of}
use Rattle.mvm_isolate.proofs.Held.{held}
use Rattle.mvm_isolate.proofs.Loading.{name_numbered, named_loads, number_within, sound_loads}
use Rattle.mvm_isolate.proofs.LookUps.{look_class}
use Rattle.mvm_isolate.proofs.isolate.Isolate.load.Goals as goal

pub invariant_of-self : goal.invariant_of-self
invariant_of-self g c =
    let loads = rw (c.requires.files, ← c.self.view_is) at c.loaded.ensures.loads in
    sound_loads (held c.self.inside) c.self.inside.known c.loaded.new.mirrors c.self.invariant loads

pub returns-clause-there : goal.returns-clause-there
returns-clause-there g c =
    IfOk-weaker c.loaded.result _ _ (λ mirror e. number_within c.args.name.now (classes_of c.loaded.new.mirrors) mirror e) c.loaded.ensures.number

pub returns-clause-name : goal.returns-clause-name
returns-clause-name g c =
    IfOk-weaker c.loaded.result _ _ (λ mirror e. name_numbered c.args.name.now (classes_of c.loaded.new.mirrors) mirror e) c.loaded.ensures.number

pub returns-clause-fault : goal.returns-clause-fault
returns-clause-fault g c = let h = rw (c.requires.files, ← c.self.view_is) at c.loaded.ensures.fault in rw (← c.self.view_is, look_class) h

pub returns-clause-same : goal.returns-clause-same
returns-clause-same g c =
    let loads = rw (c.requires.files, ← c.self.view_is) at c.loaded.ensures.loads in
    rw (← c.self.view_is) (named_loads (held c.self.inside) c.self.inside.known c.loaded.new.mirrors c.self.invariant loads)
