use Rattle.std.proofs.Common.{◌∙◌, ap, subst}
use Rattle.mvm_table.specs.Contents.{Contents, AreShelved, shelf_of}
use Rattle.mvm_table.specs.NameMap.{row}
use Rattle.mvm_table.proofs.Starting.{shelf_gives}
use Rattle.mvm_table.proofs.table.Table.on_shelf.Goals as goal

pub returns-clause-loaded : goal.returns-clause-loaded
returns-clause-loaded c =
    shelf_gives c.args.self.now c.args.set c.args.name.now c.on_shelves.result
    (subst (λ (table : Contents). AreShelved table.files table.shelves) c.self.view_is c.self.invariant.1)
    (c.on_shelves.ensures ∙ ap (row c.args.name.now) (ap (shelf_of c.args.set) c.as_slice.ensures.value ∙ ap (λ (table : Contents). shelf_of c.args.set table.shelves) c.self.view_is))
