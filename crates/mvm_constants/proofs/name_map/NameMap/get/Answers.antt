use Rattle.std.proofs.Common.{ℕ, List, ap, ◌∙◌}
use Rattle.mvm_constants.specs.NameMap.{row, rows_of}
use Rattle.mvm_constants.proofs.Names.{get_is}
use Rattle.mvm_constants.proofs.name_map.NameMap.get.Goals as goal

pub returns : goal.returns
returns g c =
    c.get.ensures.value ∙ get_is c.self.inside.rows c.units.result.now
    ∙ ap (λ (name : List ℕ). row name (rows_of c.self.inside.rows)) c.units.ensures
    ∙ ap (row c.args.name.now) c.self.view_is
