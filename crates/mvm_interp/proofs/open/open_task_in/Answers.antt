use native.Mathlib.Omega.{arith}
use Rattle.std.proofs.Common.{◌∙◌, refl, ap}
use Rattle.std.proofs.lemmas.Option.{slice_get_read}
use Rattle.std.specs.Prelude.{length}
use Rattle.mvm_history.specs.declared.launch.Launch.{Launch}
use Rattle.mvm_native.specs.declared.env.Env.{Env}
use Rattle.mvm_interp.proofs.Opened.{heap_of, ranges, row_idle, first_keeps, isolate_is, opened_is}
use Rattle.mvm_interp.proofs.open.open_task_in.Goals as goal

pub begin_row-requires-clause-idle : goal.begin_row-requires-clause-idle
begin_row-requires-clause-idle g c =
    let n = c.set_both_aside.new.isolate in
    let rows = c.in_ok-rows.rows.items in
    let row = c.index_mut.result.now in
    let in_range = ranges c.args.launch.limits c.requires.allowed in
    let launch = c.set_both_aside.ensures.grows.launch ∙ ap (λ (e : Env). e.launch) c.in_ok-isolate.ensures.env ∙ c.in_ok-env.ensures.launch in
    let there = slice_get_read rows (length rows) 0 row refl (omega (arith, c.in_ok-rows.ensures.length, in_range.threads_least)) c.index_mut.ensures.value in
    row_idle n c.args.launch.limits.frames rows row (ap (λ (l : Launch). l.limits.frames) launch) c.in_ok-rows.ensures.unused there

pub invariant_of-result : goal.invariant_of-result
invariant_of-result g c =
    let n = c.set_both_aside.new.isolate in
    let rows = c.in_ok-rows.rows.items in
    let in_range = ranges c.args.launch.limits c.requires.allowed in
    let launch = c.set_both_aside.ensures.grows.launch ∙ ap (λ (e : Env). e.launch) c.in_ok-isolate.ensures.env ∙ c.in_ok-env.ensures.launch in
    let links = c.set_both_aside.ensures.links ∙ ap (λ (e : Env). e.links) c.in_ok-isolate.ensures.env ∙ c.in_ok-env.ensures.links in
    first_keeps n c.args.launch rows (length c.args.launch.links) c.begin_row.new.row launch in_range links c.in_ok-rows.ensures.length c.in_ok-rows.ensures.unused c.begin_row.ensures.row c.begin_row.ensures.state

pub returns-clause-names : goal.returns-clause-names
returns-clause-names g c =
    let n = c.set_both_aside.new.isolate in
    let rows = c.in_ok-rows.rows.items in
    let in_range = ranges c.args.launch.limits c.requires.allowed in
    let env = c.in_ok-env.env in
    let launch = c.set_both_aside.ensures.grows.launch ∙ ap (λ (e : Env). e.launch) c.in_ok-isolate.ensures.env ∙ c.in_ok-env.ensures.launch in
    let links = c.set_both_aside.ensures.links ∙ ap (λ (e : Env). e.links) c.in_ok-isolate.ensures.env ∙ c.in_ok-env.ensures.links in
    let heap = c.in_ok-env.ensures.heap ∙ ap heap_of c.requires.words in
    let isolate = isolate_is env c.in_ok-isolate.isolate n _ _ _ heap c.in_ok-env.ensures.output c.in_ok-env.ensures.waits c.in_ok-isolate.ensures.named c.in_ok-set_both_aside.ensures.named in
    rw c.new-2.ensures (opened_is n c.args.launch rows c.begin_row.new.row launch links isolate (omega (arith, c.in_ok-rows.ensures.length, in_range.threads_least)) c.begin_row.ensures.named)
