use Rattle.std.proofs.Common.{ℕ, List, ap, ◌∙◌}
use Rattle.mvm_table.specs.NameMap.{without, rows_of}
use Rattle.mvm_table.proofs.Maps.{take_out_is}
use Rattle.mvm_table.proofs.name_map.NameMap.take_out.Goals as goal

pub returns : goal.returns
returns g c =
    take_out_is c.self.inside.rows c.remove.new.self c.units.result.now c.remove.ensures.entries
    ∙ ap (λ (name : List ℕ). without name (rows_of c.self.inside.rows)) c.units.ensures
    ∙ ap (without c.args.name.now) c.self.view_is
