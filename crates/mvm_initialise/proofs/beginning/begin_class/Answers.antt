use Rattle.std.proofs.Common.{◌≡◌, ◌∙◌, length, ap, arith}
use Rattle.mvm_layout.specs.declared.parts.Parts.{Parts}
use Rattle.mvm_initialise.proofs.Starts.{next_class, next_does, next_fits, next_grows, next_room, next_there, stays_there, state_stays}
use Rattle.mvm_initialise.proofs.beginning.begin_class.Goals as goal

pub begin-requires-clause-there : goal.begin-requires-clause-there
begin-requires-clause-there c = stays_there c.args.isolate.now c.reserve_texts.new.self c.args.mirror c.args.class.now c.requires.class c.reserve_texts.ensures.grows

pub begin-requires-clause-state : goal.begin-requires-clause-state
begin-requires-clause-state c = state_stays c.args.isolate.now c.reserve_texts.new.self c.args.mirror c.args.class.now c.requires.class c.reserve_texts.ensures.grows c.reserve_texts.ensures.same c.requires.state

pub set_constants-requires-clause-there : goal.set_constants-requires-clause-there
set_constants-requires-clause-there c =
    next_there c.args.isolate.now c.reserve_texts.new.self c.begin.new.self c.args.thread c.args.mirror c.args.class.now c.requires.class c.reserve_texts.ensures.grows c.reserve_texts.ensures.same c.begin.ensures.named c.begin.ensures.grows

pub set_constants-requires-clause-class : goal.set_constants-requires-clause-class
set_constants-requires-clause-class c =
    next_class c.args.isolate.now c.reserve_texts.new.self c.begin.new.self c.args.thread c.args.mirror c.args.class.now c.requires.class c.reserve_texts.ensures.grows c.reserve_texts.ensures.same c.begin.ensures.named c.begin.ensures.grows

pub set_constants-requires-clause-fits : goal.set_constants-requires-clause-fits
set_constants-requires-clause-fits c =
    next_fits c.args.isolate.now c.reserve_texts.new.self c.begin.new.self c.args.thread c.args.mirror c.args.class.now c.requires.class c.reserve_texts.ensures.grows c.reserve_texts.ensures.same c.begin.ensures.named c.begin.ensures.grows
    c.requires.fits

pub set_constants-requires-clause-room : goal.set_constants-requires-clause-room
set_constants-requires-clause-room c =
    let fields : length c.parts.result.now.fields ≡ length c.args.class.now.file.fields = ap (λ (p : Parts). length p.fields) (c.parts.ensures.value ∙ c.file.ensures) in
    let all : c.in-Ok.count ≡ length c.args.class.now.file.fields = omega (arith, fields) in
    next_room c.args.isolate.now c.reserve_texts.new.self c.begin.new.self c.args.thread c.args.mirror c.args.class.now c.requires.class c.reserve_texts.ensures.grows c.reserve_texts.ensures.same c.begin.ensures.named c.begin.ensures.grows
    c.in-Ok.count c.begin.ensures.env all c.in-Ok-reserve_texts.ensures.ok

pub returns-in-Ok-reserve_texts-clause-does : goal.returns-in-Ok-reserve_texts-clause-does
returns-in-Ok-reserve_texts-clause-does c =
    next_does c.args.isolate.now c.reserve_texts.new.self c.begin.new.self c.args.thread c.args.mirror c.args.class.now c.requires.class c.reserve_texts.ensures.grows c.reserve_texts.ensures.same c.begin.ensures.named c.begin.ensures.grows
    c.set_constants.new.isolate c.set_constants.ensures.does

pub returns-in-Ok-reserve_texts-clause-grows : goal.returns-in-Ok-reserve_texts-clause-grows
returns-in-Ok-reserve_texts-clause-grows c =
    next_grows c.args.isolate.now c.reserve_texts.new.self c.begin.new.self c.args.thread c.args.mirror c.args.class.now c.requires.class c.reserve_texts.ensures.grows c.reserve_texts.ensures.same c.begin.ensures.named c.begin.ensures.grows
    c.set_constants.new.isolate c.set_constants.ensures.grows
