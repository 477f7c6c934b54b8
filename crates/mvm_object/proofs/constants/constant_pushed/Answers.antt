use Rattle.mvm_base.specs.declared.value.Word.{Word}
use Rattle.mvm_isolate.specs.Isolate.{Isolate}
use Rattle.mvm_isolate.specs.Numbered.{named}
use Rattle.mvm_current.specs.Keys.{top_named}
use Rattle.mvm_current.specs.Values.{kind_of, may_push}
use Rattle.mvm_object.specs.Coming.{point_of}
use Rattle.mvm_object.specs.Fields.{loaded_constant}
use Rattle.mvm_object.specs.Going.{pushing, in_isolate}
use Rattle.mvm_object.proofs.Points.{goes_in, then_goes, on_err}
use Rattle.mvm_object.proofs.constants.constant_pushed.Goals as goal

pub returns-clause-does : goal.returns-clause-does
returns-clause-does g c = λ context look.
    then_goes (loaded_constant context.look (top_named c.args.isolate.now c.args.stack.now) (named c.args.isolate.now) c.args.found.now) (c.in_ok-word.word, named c.loaded_constant.new.isolate)
    (λ (x : Word × Isolate). pushing context c.args.next x.0 (in_isolate x.1 (point_of c.args.isolate.now c.args.stack.now))) c.pushing.result c.loaded_constant.new.isolate c.pushing.new.stack context.object
    (rw look c.in_ok-word.ensures.does)
    (goes_in (pushing context c.args.next c.in_ok-word.word) c.pushing.result c.args.isolate.now c.loaded_constant.new.isolate c.loaded_constant.new.isolate c.args.stack.now c.pushing.new.stack context.object
    c.loaded_constant.ensures.grows c.requires.keys (c.pushing.ensures.does context c.loaded_constant.new.isolate))

pub returns-clause-err : goal.returns-clause-err
returns-clause-err g c = on_err c.pushing.result (may_push (kind_of c.in_ok-word.word) (top_named c.args.isolate.now c.args.stack.now)) _ (c.pushing.ensures.room c.args.isolate.now) c.in_ok-word.ensures.kept
