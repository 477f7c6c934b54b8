use Rattle.mvm_base.specs.declared.value.Word.{Word}
use Rattle.mvm_isolate.specs.Isolate.{Isolate}
use Rattle.mvm_isolate.specs.Members.{is_declared}
use Rattle.mvm_isolate.specs.Numbered.{named}
use Rattle.mvm_current.specs.Keys.{top_named}
use Rattle.mvm_current.specs.Values.{kind_of, may_push}
use Rattle.mvm_base.specs.Answers.{◌>>=◌}
use Rattle.mvm_object.specs.Coming.{point_of}
use Rattle.mvm_object.specs.Fields.{static_pushed, static_value}
use Rattle.mvm_object.specs.Going.{pushing, in_isolate}
use Rattle.mvm_object.proofs.Points.{goes_in, then_goes, on_err}
use Rattle.mvm_object.proofs.statics.static_pushed_at.Goals as goal

pub returns-clause-does : goal.returns-clause-does
unfolding static_pushed
returns-clause-does c = λ context look.
    then_goes (is_declared context.look c.args.member.now) tt
    (λ (is : Unit {0}). static_value (top_named c.args.isolate.now c.args.stack.now) c.args.member.now (named c.args.isolate.now) >>= λ x. pushing context c.args.next x.0 (in_isolate x.1 (point_of c.args.isolate.now c.args.stack.now)))
    c.pushing.result c.static_value.new.isolate c.pushing.new.stack context.object (rw look c.declared.ensures.is)
    (then_goes (static_value (top_named c.args.isolate.now c.args.stack.now) c.args.member.now (named c.args.isolate.now)) (c.in_ok-value.value, named c.static_value.new.isolate)
    (λ (x : Word × Isolate). pushing context c.args.next x.0 (in_isolate x.1 (point_of c.args.isolate.now c.args.stack.now))) c.pushing.result c.static_value.new.isolate c.pushing.new.stack context.object
    c.in_ok-value.ensures.does
    (goes_in (pushing context c.args.next c.in_ok-value.value) c.pushing.result c.args.isolate.now c.static_value.new.isolate c.static_value.new.isolate c.args.stack.now c.pushing.new.stack context.object
    c.static_value.ensures.grows c.requires.keys (c.pushing.ensures.does context c.static_value.new.isolate)))

pub returns-clause-err : goal.returns-clause-err
returns-clause-err c = on_err c.pushing.result (may_push (kind_of c.in_ok-value.value) (top_named c.args.isolate.now c.args.stack.now)) _ (c.pushing.ensures.room c.args.isolate.now) c.in_ok-value.ensures.kept
