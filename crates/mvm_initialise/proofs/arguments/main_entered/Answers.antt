use Rattle.std.proofs.Common.{◌≡◌, ◌∙◌, ℕ, Ok, true, false, IsOk, sym, ap, subst, arith}
use Rattle.mvm_isolate.specs.Isolate.{Isolate}
use Rattle.mvm_isolate.specs.Monitors.{with_monitor}
use Rattle.mvm_isolate.specs.Numbered.{named}
use Rattle.mvm_initialise.specs.Arguments.{arguments_made}
use Rattle.mvm_initialise.specs.declared.arguments.MainCall.{MainCall}
use Rattle.mvm_initialise.specs.declared.arguments.MainLock.TheVariants.{Entered}
use Rattle.mvm_initialise.proofs.Calling.{fits_entered, lacks_entered, main_full, main_is, main_lacks}
use Rattle.mvm_initialise.proofs.arguments.main_entered.Goals as goal

pub entered_with-requires-clause-fits : goal.entered_with-requires-clause-fits
entered_with-requires-clause-fits c =
    subst (λ (s : Isolate). IsOk (arguments_made c.args.texts.now (with_monitor c.args.object c.args.monitor s))) (sym c.texts_class.ensures.same)
    (fits_entered c.args.texts.now c.args.object c.args.monitor (named c.args.isolate.now) c.in-Ok.ensures.within c.in-Ok.ensures.ok)

pub returns-then-not-room-clause-does : goal.returns-then-not-room-clause-does
returns-then-not-room-clause-does c = λ other.
    let r : c.args.room ≡ false = grind (arith, c.if-not-room.true) in
    rw r (main_full c.args.texts.now c.args.object (named c.args.isolate.now) c.args.monitor
    (fits_entered c.args.texts.now c.args.object c.args.monitor (named c.args.isolate.now) c.in-Ok.ensures.within c.in-Ok.ensures.ok))

pub returns-in-Err-clause-does : goal.returns-in-Err-clause-does
returns-in-Err-clause-does c = λ other.
    main_lacks c.args.texts.now c.args.object (named c.args.isolate.now) c.args.monitor c.args.room c.in-Err.stop
    (lacks_entered c.args.texts.now c.args.object c.args.monitor (named c.args.isolate.now) (c.in-Err.ensures.like other) c.in-Err.stop (c.in-Err.ensures.fault other))

pub returns-in-Ok-texts_class-clause-does : goal.returns-in-Ok-texts_class-clause-does
returns-in-Ok-texts_class-clause-does c =
    let r : c.args.room ≡ true = grind (arith, c.if-not-room.false) in
    let made : arguments_made c.args.texts.now (with_monitor c.args.object c.args.monitor (named c.args.isolate.now)) ≡ Ok (c.entered_with.result.arguments, named c.entered_with.new.isolate) =
    subst (λ (s : Isolate). arguments_made c.args.texts.now (with_monitor c.args.object c.args.monitor s) ≡ Ok (c.entered_with.result.arguments, named c.entered_with.new.isolate)) c.texts_class.ensures.same c.entered_with.ensures.does in
    let call : record { lock = c.args.object; arguments = c.entered_with.result.arguments } ≡ c.entered_with.result = ap (λ (n : ℕ). record { lock = n; arguments = c.entered_with.result.arguments }) (sym c.entered_with.ensures.lock) in
    rw r (main_is c.args.texts.now c.args.object (named c.args.isolate.now) c.args.monitor c.entered_with.result.arguments (named c.entered_with.new.isolate) made ∙ ap (λ (m : MainCall). Ok (Entered m, named c.entered_with.new.isolate)) call)
