use Rattle.std.proofs.Common.{◌≡◌, ◌<◌, ◌≤◌, ℕ, List, cond, length, sym, ap, ◌∙◌, arith}
use Rattle.std.specs.Prelude.{◌==◌, slice_index, slice_set}
use Rattle.mvm_table.specs.Sources.{no_bytes}
use Rattle.mvm_table.proofs.Distinct.{emptied_more, emptied_none, emptied_all, emptied_length, length_map}
use Rattle.mvm_table.specs.Sources.{first_of}
use Rattle.mvm_table.proofs.sources.empty_repeats.Goals as goal

pub loop-i-init : goal.loop-i-init
loop-i-init c = record {
  emptied = emptied_none c.args.rows.now;
  count = sym (ap length c.requires ∙ length_map (first_of c.args.rows.now) c.args.rows.now);
}

pub loop-i-preserved : goal.loop-i-preserved
loop-i-preserved c =
    let rows = c.loop-i.rows in
    let i = c.loop-i.i in
    let many : length c.args.firsts.now ≡ length c.args.rows.now = ap length c.requires ∙ length_map (first_of c.args.rows.now) c.args.rows.now in
    let e = c.empty_later.ensures ∙ ap (λ (firsts : List ℕ). cond (slice_index firsts c.loop-i.i == c.loop-i.i) c.loop-i.rows (slice_set c.loop-i.rows c.loop-i.i no_bytes)) c.requires in
    record {
      emptied = emptied_more c.args.rows.now rows c.empty_later.new.rows i (omega (arith, c.loop-i-test.true, many)) c.loop-i.invariant.emptied e;
      count = emptied_length rows c.empty_later.new.rows i _ c.empty_later.ensures ∙ c.loop-i.invariant.count;
    }

pub returns : goal.returns
returns c =
    let many : length c.args.firsts.now ≡ length c.args.rows.now = ap length c.requires ∙ length_map (first_of c.args.rows.now) c.args.rows.now in
    emptied_all c.args.rows.now c.loop-i.rows c.loop-i.i (omega (arith, c.loop-i-test.false, many)) c.loop-i.invariant.emptied
