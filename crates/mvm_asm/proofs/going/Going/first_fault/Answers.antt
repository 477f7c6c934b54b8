use Rattle.std.proofs.Common.{◌≡◌, sym, ◌∙◌}
use Rattle.mvm_listing.specs.Blocks.{unfit}
use Rattle.mvm_asm.proofs.Faults.{first_whole, first_open}
use Rattle.mvm_asm.specs.Going.{ran_of}
use Rattle.mvm_asm.proofs.going.Going.first_fault.Goals as goal

pub returns-then-is_whole : goal.returns-then-is_whole
returns-then-is_whole c =
    let left : c.as_slice-2.result.now ≡ unfit c.args.self.now.growing.block = let h = c.in_ok-open.ensures in cc in
    first_whole c.args.self.now.count (ran_of c.args.self.now) c.earliest_unfit-fault.result c.earliest_unfit-fault-2.result c.as_slice.result.now c.as_slice-2.result.now
    c.as_slice.ensures left c.earliest_unfit-fault.ensures c.earliest_unfit-fault-2.ensures (sym c.is_whole.ensures ∙ c.if-is_whole.true)

pub returns : goal.returns
returns c =
    let left : c.as_slice-2.result.now ≡ unfit c.args.self.now.growing.block = let h = c.in_ok-open.ensures in cc in
    c.earlier.ensures ∙ first_open c.args.self.now.count (ran_of c.args.self.now) c.earliest_unfit-fault.result c.earliest_unfit-fault-2.result c.as_slice.result.now c.as_slice-2.result.now
    c.as_slice.ensures left c.earliest_unfit-fault.ensures c.earliest_unfit-fault-2.ensures (sym c.is_whole.ensures ∙ c.if-is_whole.false)
