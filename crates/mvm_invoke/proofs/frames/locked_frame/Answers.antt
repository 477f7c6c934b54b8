use Rattle.std.proofs.Common.{◌≡◌, Some, Ok, Err, sym, ap, ◌∙◌}
use Rattle.mvm_isolate.specs.Numbered.{named}
use Rattle.mvm_object.specs.Coming.{point_of}
use Rattle.mvm_object.specs.Going.{Point}
use Rattle.mvm_current.proofs.Growth.{keys_grow}
use Rattle.mvm_initialise.specs.declared.locks.Lock.{Lock}
use Rattle.mvm_initialise.specs.declared.locks.Lock.TheVariants.{Entered}
use Rattle.mvm_invoke.specs.Calls.{framed, in_lock}
use Rattle.mvm_invoke.proofs.Framing.{unlocked, locked}
use Rattle.mvm_invoke.proofs.Telling.{entry_grows, limits_grow, point_grows}
use Rattle.mvm_invoke.proofs.frames.locked_frame.Goals as goal

pub returns-then-not-has_flag-clause-does : goal.returns-then-not-has_flag-clause-does
returns-then-not-has_flag-clause-does c context told =
    unlocked context c.args.member.now c.args.entry.flags c.args.entry.size c.args.passed.now (point_of c.args.isolate.now c.args.stack.now) c.if-not-has_flag.ensures
    ∙ ap (λ lock. Ok (framed context c.args.member.now c.args.entry.size lock c.args.passed.now.slots (point_of c.args.isolate.now c.args.stack.now))) (sym c.requires.unlocked)
    ∙ ap Ok (c.framed.ensures.does context c.args.isolate.now c.args.member.now told.object c.requires.limits c.requires.runs)

pub returns-then-not-has_flag-clause-limits : goal.returns-then-not-has_flag-clause-limits
returns-then-not-has_flag-clause-limits c = c.framed.ensures.limits c.args.isolate.now.env.launch.limits c.requires.limits

pub returns-then-not-has_flag-clause-after : goal.returns-then-not-has_flag-clause-after
returns-then-not-has_flag-clause-after c = c.framed.ensures.after c.args.isolate.now

pub returns-in-Ok-Entered-clause-does : goal.returns-in-Ok-Entered-clause-does
returns-in-Ok-Entered-clause-does c context told =
    let x = entry_grows c.args.isolate.now c.lock_of.new.isolate c.args.entry.key (Some c.in-Ok-Entered.object) c.lock_of.ensures.grows c.requires.key in
    let e : c.in-Ok-Entered.field-0 ≡ Entered c.in-Ok-Entered.object = (let k = c.in-Ok-Entered.field-0-is in cc) in
    locked context c.args.member.now c.args.entry.flags c.args.entry.size c.args.passed.now (point_of c.args.isolate.now c.args.stack.now) _ c.args.told.thread c.is_static-is_static.result _ _ c.if-not-has_flag.ensures told.number (sym c.is_static-is_static.ensures) (sym c.requires.class) (sym c.as_slice-words.ensures) c.in-Ok-Entered.ensures.does
    ∙ ap (λ (l : Lock). Ok (in_lock context c.args.member.now c.args.entry.size c.args.passed.now.slots (point_of c.args.isolate.now c.args.stack.now) (l, named c.lock_of.new.isolate))) e
    ∙ ap (λ (p : Point). Ok (framed context c.args.member.now c.args.entry.size (Some c.in-Ok-Entered.object) c.args.passed.now.slots p)) (sym (point_grows c.args.isolate.now c.lock_of.new.isolate c.args.stack.now c.lock_of.ensures.grows c.requires.keys))
    ∙ ap Ok (c.framed-in-Ok-Entered.ensures.does context c.lock_of.new.isolate c.args.member.now told.object (limits_grow c.args.isolate.now c.lock_of.new.isolate c.args.stack.now c.lock_of.ensures.grows c.requires.limits) (x.runs ∙ c.requires.runs))

pub returns-in-Ok-Entered-clause-keys : goal.returns-in-Ok-Entered-clause-keys
returns-in-Ok-Entered-clause-keys c =
    let x = entry_grows c.args.isolate.now c.lock_of.new.isolate c.args.entry.key (Some c.in-Ok-Entered.object) c.lock_of.ensures.grows c.requires.key in
    c.framed-in-Ok-Entered.ensures.keys c.lock_of.new.isolate x.is_key (keys_grow c.args.isolate.now c.lock_of.new.isolate c.args.stack.now c.lock_of.ensures.grows c.requires.keys)

pub returns-in-Ok-Entered-clause-limits : goal.returns-in-Ok-Entered-clause-limits
returns-in-Ok-Entered-clause-limits c =
    c.framed-in-Ok-Entered.ensures.limits c.lock_of.new.isolate.env.launch.limits (limits_grow c.args.isolate.now c.lock_of.new.isolate c.args.stack.now c.lock_of.ensures.grows c.requires.limits)

pub returns-in-Ok-Entered-clause-after : goal.returns-in-Ok-Entered-clause-after
returns-in-Ok-Entered-clause-after c = c.framed-in-Ok-Entered.ensures.after c.lock_of.new.isolate

pub returns-in-Ok-Waits-clause-keys : goal.returns-in-Ok-Waits-clause-keys
returns-in-Ok-Waits-clause-keys c = keys_grow c.args.isolate.now c.lock_of.new.isolate c.args.stack.now c.lock_of.ensures.grows c.requires.keys

pub returns-in-Err-clause-keys : goal.returns-in-Err-clause-keys
returns-in-Err-clause-keys c = keys_grow c.args.isolate.now c.lock_of.new.isolate c.args.stack.now c.lock_of.ensures.grows c.requires.keys

pub returns-then-not-has_flag-clause-begins : goal.returns-then-not-has_flag-clause-begins
returns-then-not-has_flag-clause-begins c = c.framed.ensures.begins c.args.told.threads c.args.isolate.now.env.launch.limits.threads

pub returns-in-Ok-Entered-clause-begins : goal.returns-in-Ok-Entered-clause-begins
returns-in-Ok-Entered-clause-begins c = c.framed-in-Ok-Entered.ensures.begins c.args.told.threads c.lock_of.new.isolate.env.launch.limits.threads
