use native.Mathlib.Omega.{arith}
use Rattle.std.proofs.Common.{◌∙◌, refl, ap}
use Rattle.std.proofs.lemmas.Option.{slice_get_read}
use Rattle.std.specs.Prelude.{length}
use Rattle.mvm_isolate.specs.Numbered.{look_of}
use Rattle.mvm_isolate.proofs.Keeping.{grows_then}
use Rattle.mvm_invoke.specs.Leaving.{IsTold}
use Rattle.mvm_thread.specs.Step.{context_of}
use Rattle.mvm_interp.proofs.Attempting.{held, can_below, can_row, attempted_is, rows_same, grown_names, on_err_any}
use Rattle.mvm_interp.proofs.Growing.{all_at, row_grows}
use Rattle.mvm_interp.proofs.Keeping.{attempt_keeps, bits_fit, grown_keeps}
use Rattle.mvm_interp.specs.Linking.{linked}
use Rattle.mvm_interp.specs.Names.{names, thread_named}
use Rattle.mvm_interp.specs.Sound.{IsRow}
use Rattle.mvm_interp.proofs.task_state.TaskState.attempted.Goals as goal

pub told-told-requires : goal.told-told-requires
told-told-requires g c = let can = rw (← c.self.view_is) at c.requires.can in rw (← c.self.view_is) (can_below (held c.self.inside) c.args.thread c.self.invariant can)

pub index_mut-row-requires : goal.index_mut-row-requires
index_mut-row-requires g c =
    let can = rw (← c.self.view_is) at c.requires.can in
    let below = can_below (held c.self.inside) c.args.thread c.self.invariant can in
    omega (arith, below, c.self.invariant.begun)

pub attempted_row-requires-clause-row : goal.attempted_row-requires-clause-row
attempted_row-requires-clause-row g c =
    let t = held c.self.inside in
    let can = rw (← c.self.view_is) at c.requires.can in
    let below = can_below t c.args.thread c.self.invariant can in
    let row = c.index_mut-row.result.now in
    let there = slice_get_read t.rows (length t.rows) c.args.thread row refl (omega (arith, below, c.self.invariant.begun)) c.index_mut-row.ensures.value in
    all_at (IsRow t.isolate) c.args.thread t.rows row there c.self.invariant.sound

pub attempted_row-requires-clause-thread : goal.attempted_row-requires-clause-thread
attempted_row-requires-clause-thread g c =
    let can = rw (← c.self.view_is) at c.requires.can in
    let below = can_below (held c.self.inside) c.args.thread c.self.invariant can in
    omega (arith, below, c.self.invariant.begun, c.self.invariant.most, c.self.invariant.few, c.told-told.ensures.thread)

pub invariant_of-self : goal.invariant_of-self
invariant_of-self g c =
    let t = held c.self.inside in
    let can = rw (← c.self.view_is) at c.requires.can in
    let below = can_below t c.args.thread c.self.invariant can in
    let row = c.index_mut-row.result.now in
    let there = slice_get_read t.rows (length t.rows) c.args.thread row refl (omega (arith, below, c.self.invariant.begun)) c.index_mut-row.ensures.value in
    rw (rows_same t.rows c.args.thread row c.attempted_row.new.row there c.in_err-after.ensures.same)
    (grown_keeps t.isolate c.attempted_row.new.isolate t.rows t.count t.ended t.steps c.self.invariant c.attempted_row.ensures.grows c.attempted_row.ensures.links)

pub returns-in_err-after-clause-err : goal.returns-in_err-after-clause-err
returns-in_err-after-clause-err g c =
    let t = held c.self.inside in
    let can = rw (← c.self.view_is) at c.requires.can in
    let read = rw (← c.self.view_is) at c.requires.read in
    let below = can_below t c.args.thread c.self.invariant can in
    let row = c.index_mut-row.result.now in
    let there = slice_get_read t.rows (length t.rows) c.args.thread row refl (omega (arith, below, c.self.invariant.begun)) c.index_mut-row.ensures.value in
    rw (rows_same t.rows c.args.thread row c.attempted_row.new.row there c.in_err-after.ensures.same, ← c.self.view_is)
    (on_err_any c.from_residual.result (grown_names t c.attempted_row.new.isolate c.self.invariant read c.attempted_row.ensures.grows c.in_err-after.ensures.err c.attempted_row.ensures.links))

pub with_bit-self-inside-requires-clause-thread : goal.with_bit-self-inside-requires-clause-thread
with_bit-self-inside-requires-clause-thread g c =
    let can = rw (← c.self.view_is) at c.requires.can in
    let below = can_below (held c.self.inside) c.args.thread c.self.invariant can in
    omega (arith, below, c.self.invariant.begun, c.self.invariant.most, c.self.invariant.few)

pub with_bit-self-inside-requires-clause-fits : goal.with_bit-self-inside-requires-clause-fits
with_bit-self-inside-requires-clause-fits g c =
    let t = held c.self.inside in
    let can = rw (← c.self.view_is) at c.requires.can in
    let below = can_below t c.args.thread c.self.invariant can in
    let row = c.index_mut-row.result.now in
    let there = slice_get_read t.rows (length t.rows) c.args.thread row refl (omega (arith, below, c.self.invariant.begun)) c.index_mut-row.ensures.value in
    λ over. bits_fit t.isolate t.rows t.count t.ended t.steps c.args.thread row c.self.invariant below there (can_row t c.args.thread row c.self.invariant can there).going

pub overflow_add-self : goal.overflow_add-self
overflow_add-self g c = let counts = rw (← c.self.view_is) at c.requires.counts in omega (arith, counts)

pub invariant_of-self-2 : goal.invariant_of-self-2
invariant_of-self-2 g c =
    let t = held c.self.inside in
    let can = rw (← c.self.view_is) at c.requires.can in
    let more = rw (← c.self.view_is) at c.requires.more in
    let below = can_below t c.args.thread c.self.invariant can in
    let row = c.index_mut-row.result.now in
    let there = slice_get_read t.rows (length t.rows) c.args.thread row refl (omega (arith, below, c.self.invariant.begun)) c.index_mut-row.ensures.value in
    let is = can_row t c.args.thread row c.self.invariant can there in
    let mid = c.attempted_row.new.isolate in
    let last = c.link.new.isolate in
    let next = c.attempted_row.new.row in
    let grows = grows_then t.isolate mid last c.attempted_row.ensures.grows c.link.ensures.grows in
    rw (c.with_bit-self-inside.ensures, c.is_over.ensures)
    (attempt_keeps t.isolate last t.rows t.count t.ended t.steps c.args.thread row next c.self.invariant grows below there is.inside is.going
    (row_grows mid last next c.link.ensures.grows c.attempted_row.ensures.row)
    (c.link.ensures.links ∙ ap (linked c.args.thread next.state) c.attempted_row.ensures.links) more)

pub returns-clause-does : goal.returns-clause-does
returns-clause-does g c =
    let t = held c.self.inside in
    let can = rw (← c.self.view_is) at c.requires.can in
    let read = rw (← c.self.view_is) at c.requires.read in
    let below = can_below t c.args.thread c.self.invariant can in
    let row = c.index_mut-row.result.now in
    let there = slice_get_read t.rows (length t.rows) c.args.thread row refl (omega (arith, below, c.self.invariant.begun)) c.index_mut-row.ensures.value in
    let is = can_row t c.args.thread row c.self.invariant can there in
    let mid = c.attempted_row.new.isolate in
    let last = c.link.new.isolate in
    let next = c.attempted_row.new.row in
    let todo = c.in_ok-after.after in
    let grows = grows_then t.isolate mid last c.attempted_row.ensures.grows c.link.ensures.grows in
    let context = context_of (look_of t.isolate) c.args.thread (thread_named t.isolate row) (names t) in
    let all_told = rw (← c.self.view_is) at c.told-told.ensures.told in
    let told : IsTold context t.isolate c.told-told.result = rw is.found at all_told in
    rw (← c.self.view_is)
    (attempted_is t mid last c.args.thread c.with_bit-self-inside.result row next todo c.self.invariant is read c.attempted_row.ensures.grows grows c.link.ensures.grows c.link.ensures.same
    c.attempted_row.ensures.row c.in_ok-after.ensures.state (c.link.ensures.links ∙ ap (linked c.args.thread next.state) c.attempted_row.ensures.links)
    (c.in_ok-after.ensures.does context told))
