use Rattle.std.proofs.Common.{ℕ, sym}
use Rattle.mvm_base.specs.Answers.{◌>>=◌}
use Rattle.mvm_base.specs.declared.value.Kind.TheVariants as kind
use Rattle.mvm_base.specs.declared.value.Word.TheVariants.{Ref}
use Rattle.mvm_isolate.specs.Isolate.{Isolate, new_array}
use Rattle.mvm_isolate.specs.Numbered.{named, shape_at}
use Rattle.mvm_current.specs.Frames.{Frame}
use Rattle.mvm_current.specs.Keys.{top_named}
use Rattle.mvm_current.specs.Values.{may_push}
use Rattle.mvm_object.specs.Arrays.{array_made, popped_count}
use Rattle.mvm_object.specs.Coming.{point_of}
use Rattle.mvm_object.specs.Going.{pushing}
use Rattle.mvm_object.proofs.Points.{goes_after, not_refused, then_goes}
use Rattle.mvm_object.proofs.making.array_made.Goals as goal

pub returns-clause-does : goal.returns-clause-does
unfolding array_made
returns-clause-does c = λ context.
    then_goes (popped_count (top_named c.args.isolate.now c.args.stack.now)) (c.in_ok-count.count, top_named c.args.isolate.now c.popped_count.new.stack)
    (λ (n : ℕ × Frame). may_push kind.Ref n.1 >>= λ may. new_array (shape_at c.args.isolate.now c.args.row) n.0 (named c.args.isolate.now) >>= λ x. pushing context c.args.next (Ref x.0) (record (point_of c.args.isolate.now c.args.stack.now) { isolate = x.1; frame = n.1 }))
    c.pushing.result c.new_array.new.self c.pushing.new.stack context.object (c.in_ok-count.ensures.does c.args.isolate.now)
    (then_goes (may_push kind.Ref (top_named c.args.isolate.now c.popped_count.new.stack)) c.in_ok-may_push.field-0
    (λ (may : Unit {0}). new_array (shape_at c.args.isolate.now c.args.row) c.in_ok-count.count (named c.args.isolate.now) >>= λ x. pushing context c.args.next (Ref x.0) (record (point_of c.args.isolate.now c.args.stack.now) { isolate = x.1; frame = top_named c.args.isolate.now c.popped_count.new.stack }))
    c.pushing.result c.new_array.new.self c.pushing.new.stack context.object (sym (c.in_ok-may_push.ensures.is c.args.isolate.now))
    (then_goes (new_array (shape_at c.args.isolate.now c.args.row) c.in_ok-count.count (named c.args.isolate.now)) (c.in_ok-object.object, named c.new_array.new.self)
    (λ (x : ℕ × Isolate). pushing context c.args.next (Ref x.0) (record (point_of c.args.isolate.now c.args.stack.now) { isolate = x.1; frame = top_named c.args.isolate.now c.popped_count.new.stack }))
    c.pushing.result c.new_array.new.self c.pushing.new.stack context.object c.in_ok-object.ensures.does
    (goes_after (pushing context c.args.next (Ref c.in_ok-object.object)) c.pushing.result c.args.isolate.now c.new_array.new.self c.new_array.new.self c.args.stack.now c.popped_count.new.stack c.pushing.new.stack context.object
    c.new_array.ensures.grows c.requires.keys c.popped_count.ensures.rest (c.pushing.ensures.does context c.new_array.new.self))))

pub returns-clause-err : goal.returns-clause-err
returns-clause-err c =
    not_refused c.pushing.result (may_push kind.Ref (top_named c.args.isolate.now c.popped_count.new.stack)) c.in_ok-may_push.field-0 _ (c.in_ok-may_push.ensures.is c.args.isolate.now) (c.pushing.ensures.room c.args.isolate.now)
