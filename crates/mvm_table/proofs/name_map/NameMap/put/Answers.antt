use Rattle.std.proofs.Common.{◌≡◌, None, subst, ◌∙◌}
use Rattle.mvm_table.specs.NameMap.{row, without, Puts, rows_of}
use Rattle.mvm_table.proofs.Maps.{put_is, back_is}
use Rattle.mvm_table.proofs.name_map.NameMap.put.Goals as goal

pub returns-clause-ok : goal.returns-clause-ok
returns-clause-ok g c =
    subst (λ old. Puts old c.args.name.now c.args.value (rows_of c.insert.new.self)) c.self.view_is
    (put_is c.self.inside.rows c.insert.new.self c.in_ok-key.key c.args.name.now c.args.value (c.in_ok-key.ensures.items ∙ c.units.ensures) c.in_ok-insert.ensures.entries)

pub returns-clause-back : goal.returns-clause-back
returns-clause-back g c =
    subst (λ old. row c.args.name.now old ≡ None → without c.args.name.now (rows_of c.insert.new.self) ≡ old) c.self.view_is
    (back_is c.self.inside.rows c.insert.new.self c.in_ok-key.key c.args.name.now c.args.value (c.in_ok-key.ensures.items ∙ c.units.ensures) c.in_ok-insert.ensures.entries)
