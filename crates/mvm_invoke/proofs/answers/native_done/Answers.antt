use Rattle.std.proofs.Common.{◌∙◌}
use Rattle.mvm_isolate.specs.Numbered.{named}
use Rattle.mvm_current.proofs.Growth.{keys_grow}
use Rattle.mvm_invoke.proofs.Calling.{done_leaves, done_stops, on_err_both}
use Rattle.mvm_invoke.proofs.Telling.{told_grows}
use Rattle.mvm_invoke.proofs.Throwing.{fail_kept}
use Rattle.mvm_invoke.proofs.answers.native_done.Goals as goal

pub answered-requires-clause-keys : goal.answered-requires-clause-keys
answered-requires-clause-keys c = keys_grow c.args.isolate.now c.native_called.new.self c.args.stack.now c.native_called.ensures.grows c.requires.keys

pub returns-in-Ok-clause-does : goal.returns-in-Ok-clause-does
returns-in-Ok-clause-does c context told =
    done_leaves context c.args.isolate.now c.native_called.new.self c.answered.new.isolate c.args.caller.told c.args.native c.args.passed.now c.as_slice-words.result.now c.args.caller.next c.args.stack.now c.answered.new.stack c.in-Ok.answer c.answered.result told
    c.native_called.ensures.grows c.requires.keys c.as_slice-words.ensures c.in-Ok.ensures.does
    (c.answered.ensures.does context (told_grows context c.args.isolate.now c.native_called.new.self c.args.caller.told told c.native_called.ensures.grows c.native_called.ensures.links))

pub returns-in-Ok-clause-err : goal.returns-in-Ok-clause-err
returns-in-Ok-clause-err c =
    on_err_both c.answered.result _ _ _ c.answered.ensures.fails c.answered.ensures.err
    (λ may same. same ∙ fail_kept c.args.isolate.now.env.launch c.args.caller.told.thread c.args.isolate.now.env.links c.args.native c.as_slice-words.result.now c.args.isolate.now c.in-Ok.answer (named c.native_called.new.self) may c.in-Ok.ensures.does)

pub returns-in-Err-clause-does : goal.returns-in-Err-clause-does
returns-in-Err-clause-does c context told other =
    done_stops context c.args.isolate.now c.args.caller.told c.args.native c.args.passed.now c.as_slice-words.result.now c.args.caller.next c.args.stack.now c.in-Err.stop told c.as_slice-words.ensures (c.in-Err.ensures.does other)
