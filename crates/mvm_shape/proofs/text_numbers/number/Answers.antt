use Rattle.std.proofs.Common.{sym}
use Rattle.std.proofs.lemmas.Map.Text.{btree_map_updates_str}
use Rattle.mvm_shape.specs.TextNumbers.{look}
use Rattle.mvm_shape.proofs.TextNumbers.{new_text}
use Rattle.mvm_shape.proofs.text_numbers.number.Goals as goal

pub returns : goal.returns
returns c =
    new_text c.args.units.now c.args.at (look c.args.seen.now) (look c.insert.new.self) (sym c.in-None.ensures.value)
    (btree_map_updates_str c.args.units.now c.args.seen.now c.insert.new.self _ c.in_ok-insert.ensures.updates)
