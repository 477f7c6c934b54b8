use Rattle.std.proofs.Common.{subst, ◌∙◌}
use Rattle.mvm_constants.specs.NameMap.{Puts, rows_of}
use Rattle.mvm_constants.proofs.Names.{put_is}
use Rattle.mvm_constants.proofs.name_map.NameMap.put.Goals as goal

pub returns-clause-ok : goal.returns-clause-ok
returns-clause-ok g c =
    subst (λ old. Puts old c.args.name.now c.args.value (rows_of c.insert.new.self)) c.self.view_is
    (put_is c.self.inside.rows c.insert.new.self c.in_ok-key.key c.args.name.now c.args.value (c.in_ok-key.ensures.items ∙ c.units.ensures) c.in_ok-insert.ensures.entries)
