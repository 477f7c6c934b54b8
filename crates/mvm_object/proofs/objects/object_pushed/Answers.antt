use Rattle.std.proofs.Common.{ℕ, sym}
use Rattle.mvm_base.specs.Answers.{◌>>=◌}
use Rattle.mvm_base.specs.declared.value.Kind.TheVariants as kind
use Rattle.mvm_base.specs.declared.value.Word.TheVariants.{Ref}
use Rattle.mvm_isolate.specs.Isolate.{Isolate, new_object}
use Rattle.mvm_isolate.specs.Numbered.{name_at, named}
use Rattle.mvm_current.specs.Keys.{top_named}
use Rattle.mvm_current.specs.Values.{may_push}
use Rattle.mvm_object.specs.Coming.{point_of}
use Rattle.mvm_object.specs.Going.{pushing, in_isolate}
use Rattle.mvm_object.specs.Objects.{object_pushed}
use Rattle.mvm_object.proofs.Points.{goes_in, not_refused, then_goes}
use Rattle.mvm_object.proofs.objects.object_pushed.Goals as goal

pub returns-clause-does : goal.returns-clause-does
unfolding object_pushed
returns-clause-does c = λ context.
    then_goes (may_push kind.Ref (top_named c.args.isolate.now c.args.stack.now)) c.in_ok-may_push.field-0
    (λ (may : Unit {0}). new_object (name_at c.args.isolate.now c.args.mirror) c.args.fields (named c.args.isolate.now) >>= λ x. pushing context c.args.next (Ref x.0) (in_isolate x.1 (point_of c.args.isolate.now c.args.stack.now)))
    c.pushing.result c.new_object.new.self c.pushing.new.stack context.object (sym (c.in_ok-may_push.ensures.is c.args.isolate.now))
    (then_goes (new_object (name_at c.args.isolate.now c.args.mirror) c.args.fields (named c.args.isolate.now)) (c.in_ok-object.object, named c.new_object.new.self)
    (λ (x : ℕ × Isolate). pushing context c.args.next (Ref x.0) (in_isolate x.1 (point_of c.args.isolate.now c.args.stack.now))) c.pushing.result c.new_object.new.self c.pushing.new.stack context.object
    c.in_ok-object.ensures.does
    (goes_in (pushing context c.args.next (Ref c.in_ok-object.object)) c.pushing.result c.args.isolate.now c.new_object.new.self c.new_object.new.self c.args.stack.now c.pushing.new.stack context.object
    c.new_object.ensures.grows c.requires.keys (c.pushing.ensures.does context c.new_object.new.self)))

pub returns-clause-err : goal.returns-clause-err
returns-clause-err c =
    not_refused c.pushing.result (may_push kind.Ref (top_named c.args.isolate.now c.args.stack.now)) c.in_ok-may_push.field-0 _ (c.in_ok-may_push.ensures.is c.args.isolate.now) (c.pushing.ensures.room c.args.isolate.now)
