use Rattle.std.proofs.Common.{refl}
use Rattle.mvm_mirror.specs.Kept.{classes_of}
use Rattle.mvm_isolate.proofs.Named.{class_named}
use Rattle.mvm_isolate.proofs.Loading.{loads_class, loads_same, made_of, number_own}
use Rattle.mvm_isolate.proofs.load.class_number.Goals as goal

pub returns-in-Some-clause-loads : goal.returns-in-Some-clause-loads
returns-in-Some-clause-loads g c = loads_same c.args.table.now.files c.args.set c.args.mirrors.now c.args.mirrors.now c.requires.loaded refl

pub returns-in_ok-add-in-Ok-clause-number : goal.returns-in_ok-add-in-Ok-clause-number
returns-in_ok-add-in-Ok-clause-number g c =
    number_own (classes_of c.add.new.self) c.in-Ok.class c.args.name.now c.in_ok-add-in-Ok.field-0 (class_named c.args.table.now.files c.args.set c.args.name.now c.in-Ok.class c.in-Ok.ensures.loads) c.in_ok-add-in-Ok.ensures.number

pub returns-in_ok-add-in-Ok-clause-loads : goal.returns-in_ok-add-in-Ok-clause-loads
returns-in_ok-add-in-Ok-clause-loads g c =
    loads_class c.args.table.now.files c.args.set c.args.mirrors.now c.add.new.self c.in-Ok.class c.requires.loaded
    (made_of c.args.table.now.files c.args.set c.args.name.now c.in-Ok.class c.in-Ok.ensures.loaded c.in-Ok.ensures.loads) c.in_ok-add-in-Ok.ensures.classes c.in_ok-add-in-Ok.ensures.same
