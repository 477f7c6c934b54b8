use Rattle.std.proofs.Common.{◌≡◌, ◌∙◌, ℕ, List, Ok, IfOk, sym, ap, subst}
use Rattle.mvm_mirror.specs.declared.state.Begin.{Begin}
use Rattle.mvm_isolate.specs.Initialise.{begins}
use Rattle.mvm_isolate.specs.Numbered.{look_of, name_at, named}
use Rattle.mvm_current.specs.Frames.{has_room}
use Rattle.mvm_current.proofs.Growth.{is_class_grows, keys_grow, name_grows}
use Rattle.mvm_invoke.proofs.Telling.{limits_grow}
use Rattle.mvm_object.specs.Beginning.{IsBegun}
use Rattle.mvm_object.proofs.Beginning.{begins_erroneous, begins_room, begins_same}
use Rattle.mvm_object.proofs.Initialising.{frames_there, on_err_then}
use Rattle.mvm_starting.proofs.Supers.{begun_goes, begun_stops}
use Rattle.mvm_starting.proofs.initialising.super_begun.Goals as goal

pub begun_by-requires-clause-keys : goal.begun_by-requires-clause-keys
begun_by-requires-clause-keys c = keys_grow c.args.isolate.now c.begins.new.isolate c.args.stack.now c.begins.ensures.grows c.requires.keys

pub begun_by-requires-clause-class : goal.begun_by-requires-clause-class
begun_by-requires-clause-class c = is_class_grows c.args.isolate.now c.begins.new.isolate c.args.mirror c.begins.ensures.grows c.requires.class

pub begun_by-requires-clause-room : goal.begun_by-requires-clause-room
begun_by-requires-clause-room c = λ way.
    sym c.room-has_room.ensures.fits
    ∙ begins_room (look_of c.args.isolate.now) c.room-has_room.result c.args.thread (name_at c.args.isolate.now c.args.mirror) (named c.args.isolate.now) (named c.begins.new.isolate)
    (subst (λ (way : Begin). begins (look_of c.args.isolate.now) c.room-has_room.result c.args.thread (name_at c.args.isolate.now c.args.mirror) (named c.args.isolate.now) ≡ Ok (way, named c.begins.new.isolate)) way c.in-Ok.ensures.does)

pub returns-in-Ok-clause-does : goal.returns-in-Ok-clause-does
returns-in-Ok-clause-does c = λ context go is.
    begun_goes context c.args.isolate.now c.begins.new.isolate c.args.thread c.args.mirror c.args.stack.now c.begun_by.new.stack c.room-has_room.result c.in-Ok.way go c.begun_by.result is
    c.begins.ensures.grows c.requires.keys c.requires.class
    (c.room-has_room.ensures.is c.args.isolate.now c.args.isolate.now.env.launch.limits c.requires.limits ∙ ap (has_room c.args.isolate.now.env.launch.limits 0 0) (frames_there c.args.isolate.now c.args.stack.now c.requires.frame)) c.in-Ok.ensures.does (c.begun_by.ensures.does context go)

pub returns-in-Ok-clause-begun : goal.returns-in-Ok-clause-begun
returns-in-Ok-clause-begun c =
    subst (λ (name : List ℕ). IfOk c.begun_by.result (λ once. IsBegun name c.begins.new.isolate c.args.stack.now c.begun_by.new.stack once))
    (name_grows c.args.isolate.now c.begins.new.isolate c.args.mirror c.begins.ensures.grows c.requires.class) c.begun_by.ensures.begun

pub returns-in-Ok-clause-limits : goal.returns-in-Ok-clause-limits
returns-in-Ok-clause-limits c =
    c.begun_by.ensures.limits c.begins.new.isolate.env.launch.limits
    (limits_grow c.args.isolate.now c.begins.new.isolate c.args.stack.now c.begins.ensures.grows c.requires.limits)

pub returns-in-Ok-clause-same : goal.returns-in-Ok-clause-same
returns-in-Ok-clause-same c = λ number e.
    begins_same (look_of c.args.isolate.now) c.room-has_room.result c.args.thread (name_at c.args.isolate.now c.args.mirror) (named c.args.isolate.now) (named c.begins.new.isolate)
    (subst (λ (way : Begin). begins (look_of c.args.isolate.now) c.room-has_room.result c.args.thread (name_at c.args.isolate.now c.args.mirror) (named c.args.isolate.now) ≡ Ok (way, named c.begins.new.isolate)) (c.begun_by.ensures.done number e) c.in-Ok.ensures.does)

pub returns-in-Ok-clause-err : goal.returns-in-Ok-clause-err
returns-in-Ok-clause-err c =
    on_err_then c.begun_by.result _ _ c.begun_by.ensures.erroneous
    (λ way. begins_erroneous (look_of c.args.isolate.now) c.room-has_room.result c.args.thread (name_at c.args.isolate.now c.args.mirror) (named c.args.isolate.now) (named c.begins.new.isolate)
    (subst (λ (way : Begin). begins (look_of c.args.isolate.now) c.room-has_room.result c.args.thread (name_at c.args.isolate.now c.args.mirror) (named c.args.isolate.now) ≡ Ok (way, named c.begins.new.isolate)) way c.in-Ok.ensures.does))

pub returns-in-Err-clause-does : goal.returns-in-Err-clause-does
returns-in-Err-clause-does c = λ context go is other.
    begun_stops context c.args.isolate.now c.args.thread (name_at c.args.isolate.now c.args.mirror) c.args.stack.now c.room-has_room.result go c.in-Err.stop is
    (c.room-has_room.ensures.is c.args.isolate.now c.args.isolate.now.env.launch.limits c.requires.limits ∙ ap (has_room c.args.isolate.now.env.launch.limits 0 0) (frames_there c.args.isolate.now c.args.stack.now c.requires.frame)) (c.in-Err.ensures.does other)

pub returns-in-Err-clause-keys : goal.returns-in-Err-clause-keys
returns-in-Err-clause-keys c = keys_grow c.args.isolate.now c.begins.new.isolate c.args.stack.now c.begins.ensures.grows c.requires.keys
