use Rattle.std.proofs.Common.{◌≡◌, map, arith}
use Rattle.mvm_check.specs.Operands.{slots_of_item}
use Rattle.mvm_check.proofs.Slots.{slots-beside}
use Rattle.mvm_check.proofs.constants.Constants.parameter_slots.Goals as goal

pub returns : goal.returns
returns c =
    let table : c.self.inside.slots ≡ map slots_of_item c.self.inside.pool.now = c.self.invariant in
    let view : c.self.inside.pool.now ≡ c.args.self.now = c.self.view_is in
    rw (c.slots_at.ensures, c.as_slice.ensures, c.from.ensures, table, view) (slots-beside c.args.self.now c.args.desc (omega arith))
