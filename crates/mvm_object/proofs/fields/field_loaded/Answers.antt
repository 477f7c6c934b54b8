use Rattle.std.proofs.Common.{◌∙◌}
use Rattle.mvm_set.specs.declared.class.Lineage.{Lineage}
use Rattle.mvm_isolate.specs.Faults.{looked_up}
use Rattle.mvm_object.specs.Coming.{point_of}
use Rattle.mvm_object.specs.Fields.{field_pushed}
use Rattle.mvm_object.proofs.Points.{found_after, goes_at, look_grows, then_goes}
use Rattle.mvm_object.proofs.fields.field_loaded.Goals as goal

pub returns-clause-does : goal.returns-clause-does
returns-clause-does g c = λ context look.
    then_goes (looked_up (context.look.class c.args.member.now.class)) c.class-class.result.now (λ (class : Lineage). field_pushed context c.args.next c.args.member.now class (point_of c.args.isolate.now c.args.stack.now))
    c.field_pushed.result c.load.new.self c.field_pushed.new.stack context.object
    (rw look (found_after c.args.isolate.now c.load.new.self c.in_ok-mirror.mirror c.args.member.now.class c.class-class.result.now c.load.ensures.grows (c.in_ok-mirror.ensures.name ∙ c.class.ensures) c.class-class.ensures.value))
    (goes_at (field_pushed context c.args.next c.args.member.now c.class-class.result.now) c.field_pushed.result c.args.isolate.now c.load.new.self c.load.new.self c.args.stack.now c.field_pushed.new.stack context.object
    c.load.ensures.grows c.requires.keys c.load.ensures.same
    (c.field_pushed.ensures.does context c.class-class.result.now (look ∙ look_grows c.args.isolate.now c.load.new.self c.load.ensures.grows) c.class-class.ensures.at))
